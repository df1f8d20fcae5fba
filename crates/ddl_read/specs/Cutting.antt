-- What the cut finds, piece by piece.
use Rattle.std.specs.Prelude.{◌≡◌, ℕ, ◌+◌, ◌<◌, ◌≤◌, Bool, true, false, int_lt, List, [], ◌∷◌, length, take, drop, map, slice_get, Some}
use Rattle.std.specs.List.{AllByRecursion, list_any}
use Rattle.std.specs.Str.{IsValidUpTo}
use Rattle.hs_base.specs.declared.limits.TheConstants.{LAST}
use Rattle.hs_texts.specs.declared.refusal.Refusal.{Refusal}
use Rattle.hs_texts.specs.declared.refusal.Refusal.TheVariants.{Char, NotUtf8}
use Rattle.hs_texts.specs.Pieces.{after_gap, begins_no_piece, StandsFirst, Cuts, AreCut, IsBadChar, IsTextOf}
use Rattle.ddl_read.specs.declared.piece.Piece.{Piece}
use Rattle.ddl_read.specs.declared.piece.PieceKind.{PieceKind}
use Rattle.ddl_read.specs.declared.piece.PieceKind.TheVariants.{Word, Number, Symbol}
use Rattle.ddl_read.specs.declared.next.Next.{Next}
use Rattle.ddl_read.specs.declared.next.Next.TheVariants.{Stands, Bad, End}
use Rattle.ddl_read.specs.Spelled.{placed, IsSpelled}

-- a byte that begins no piece stands behind the gap, at this place
pub record IsBadNext (text : List ℕ) (from at : ℕ) : Type 0 where
  pub char : ℕ
  pub behind : List ℕ
  pub next : after_gap false (drop from text) ≡ char ∷ behind
  pub bad : begins_no_piece char ≡ true
  pub place : at + length (char ∷ behind) ≡ length text

-- the piece stands behind the gap, and ends there
pub record Ends (text : List ℕ) (from : ℕ) (p : Piece) (end : ℕ) : Type 0 where
  pub after : from < end
  pub within : end ≤ length text
  pub first : StandsFirst (length text) (drop from text) (placed text p) (drop end text)
  pub spelled : IsSpelled text p

-- what stands behind the gap
abbrev pub IsNext : List ℕ → ℕ → Next → Type 0
IsNext text from (Stands p end) = Ends text from p end
IsNext text from (Bad at) = IsBadNext text from at
IsNext text from End = after_gap false (drop from text) ≡ []

-- the pieces are those before a place
pub record AreFirst (text : List ℕ) (ps : List Piece) (from : ℕ) : Type 0 where
  pub within : from ≤ length text
  pub cuts : Cuts (length text) text (map (placed text) ps) (drop from text)
  pub spelled : AllByRecursion (IsSpelled text) ps

-- the pieces are those of the text
pub record AreAll (text : List ℕ) (ps : List Piece) : Type 0 where
  pub cut : AreCut text (map (placed text) ps)
  pub spelled : AllByRecursion (IsSpelled text) ps

-- no piece begins with the character at this place
abbrev pub IsCharRefusal : List ℕ → Refusal → Type 0
IsCharRefusal text (Char at) = IsBadChar text at
IsCharRefusal text _ = ⊥

-- the first byte that begins no valid sequence stands at this place
abbrev pub IsUtf8Refusal : List ℕ → Refusal → Type 0
IsUtf8Refusal text (NotUtf8 at) = IsValidUpTo text at
IsUtf8Refusal text _ = ⊥

-- a number that was too large to keep
abbrev pub is_too_large : PieceKind → Bool
is_too_large Word = false
is_too_large (Number n) = int_lt LAST n
is_too_large (Symbol c) = false

-- the first such number stands at this place
pub record IsFirstLarge (ps : List Piece) (at : ℕ) : Type 0 where
  pub index : ℕ
  pub piece : Piece
  pub here : slice_get ps index ≡ Some piece
  pub before : list_any (λ p. is_too_large p.kind) (take index ps) ≡ false
  pub large : is_too_large piece.kind ≡ true
  pub place : piece.place ≡ at

-- bytes and the pieces that they are cut into
pub record CutText : Type 0 where
  pub bytes : List ℕ
  pub pieces : List Piece

-- the bytes are a text of these pieces
pub record IsCut (text : List ℕ) (ps : List Piece) : Type 0 where
  pub is_text : IsTextOf text (map (placed text) ps)
  pub spelled : AllByRecursion (IsSpelled text) ps
