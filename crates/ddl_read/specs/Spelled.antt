-- The pieces of a text, as the cut keeps them.
use Rattle.std.specs.Prelude.{◌≡◌, ℕ, ◌+◌, ◌≤◌, cond, ℤ, pos, ◌+ℤ◌, List, map, take, drop, length}
use Rattle.std.specs.List.{AllByRecursion}
use Rattle.hs_base.specs.declared.limits.TheConstants.{LAST}
use Rattle.hs_texts.specs.Pieces.{Placed, number_of, is_large}
use Rattle.hs_texts.specs.Pieces.{Piece as Spelling, word, number, symbol}
use Rattle.ddl_read.specs.declared.piece.Piece.{Piece}
use Rattle.ddl_read.specs.declared.piece.PieceKind.{PieceKind}
use Rattle.ddl_read.specs.declared.piece.PieceKind.TheVariants.{Word, Number, Symbol}

-- the bytes of a piece
abbrev pub bytes_of_piece : List ℕ → Piece → List ℕ
bytes_of_piece text p = take p.length (drop p.place text)

-- what a piece of that kind spells
abbrev pub spelling : PieceKind → List ℕ → Spelling
spelling Word bytes = word bytes
spelling (Number n) bytes = number bytes
spelling (Symbol c) bytes = symbol c

abbrev pub spelling_of : List ℕ → Piece → Spelling
spelling_of text p = spelling p.kind (bytes_of_piece text p)

abbrev pub placed : List ℕ → Piece → Placed
placed text p = record { place = p.place; piece = spelling_of text p }

-- the number that a kind keeps of its digits; one that is too large is kept as LAST + 1
abbrev pub kept_number : List ℕ → ℤ
kept_number ds = cond (is_large (number ds)) (LAST +ℤ pos 1) (pos (number_of ds))

abbrev pub KeepsNumber : PieceKind → List ℕ → Type 0
KeepsNumber Word bytes = Unit {0}
KeepsNumber (Number n) bytes = n ≡ kept_number bytes
KeepsNumber (Symbol c) bytes = Unit {0}

-- the piece lies within the text, and its kind says what its bytes do
pub record IsSpelled (text : List ℕ) (p : Piece) : Type 0 where
  pub within : p.place + p.length ≤ length text
  pub kept : KeepsNumber p.kind (bytes_of_piece text p)

-- all spellings of a list of pieces
abbrev pub spellings : List ℕ → List Piece → List Spelling
spellings text ps = map (spelling_of text) ps

-- the same of pieces whose numbers are none too large
abbrev pub IsSmallNumber : PieceKind → List ℕ → Type 0
IsSmallNumber Word bytes = Unit {0}
IsSmallNumber (Number n) bytes = n ≡ pos (number_of bytes)
IsSmallNumber (Symbol c) bytes = Unit {0}

abbrev pub IsSmall : List ℕ → Piece → Type 0
IsSmall text p = (p.place + p.length ≤ length text) × IsSmallNumber p.kind (bytes_of_piece text p)

abbrev pub AreSpelled : List ℕ → List Piece → Type 0
AreSpelled text ps = AllByRecursion (IsSmall text) ps
