-- Texts as lists of pieces: words, numbers and symbols.
use Rattle.std.specs.Prelude.{◌≡◌, ℕ, ◌+◌, ◌-◌, ◌*◌, ◌<◌, ◌≤◌, Bool, true, false, cond, not, ◌&&◌, ◌||◌, nat_eq, nat_le, nat_lt, pos, int_lt, List, [], ◌∷◌, ◌++◌, length, fold, map, slice_get, Some, None}
use Rattle.std.specs.List.{list_all, list_any}
use Rattle.std.specs.Str.{IsUtf8, IsValidUpTo}
use Rattle.hs_base.specs.declared.limits.TheConstants.{LAST, TEXT_BYTES}
use Rattle.hs_texts.specs.Types.{Refusal, NotUtf8, Char, Number, Limit}

-- a piece: a word by its bytes, a number by its digits, or a symbol
pub data Piece : Type 0 where
  word : List ℕ → Piece
  number : List ℕ → Piece
  symbol : ℕ → Piece

-- an ASCII letter
abbrev pub is_letter : ℕ → Bool
is_letter c = (nat_le 65 c && nat_le c 90) || (nat_le 97 c && nat_le c 122)

abbrev pub is_digit : ℕ → Bool
is_digit c = nat_le 48 c && nat_le c 57

-- a letter, a digit or the underscore
abbrev pub is_word_byte : ℕ → Bool
is_word_byte c = is_letter c || is_digit c || nat_eq c 95

-- one of [ ] , . ; - ( )
abbrev pub is_symbol : ℕ → Bool
is_symbol c =
    nat_eq c 91 || nat_eq c 93 || nat_eq c 44 || nat_eq c 46 || nat_eq c 59 || nat_eq c 45 || nat_eq c 40 || nat_eq c 41

-- a space, a tab, a line feed or a carriage return
abbrev pub is_space : ℕ → Bool
is_space c = nat_eq c 32 || nat_eq c 9 || nat_eq c 10 || nat_eq c 13

-- the first byte, if there is one, passes the test
abbrev pub begins : (ℕ → Bool) → List ℕ → Bool
begins test [] = false
begins test (c ∷ cs) = test c

-- the bytes of a piece
abbrev pub bytes_of : Piece → List ℕ
bytes_of (word bs) = bs
bytes_of (number ds) = ds
bytes_of (symbol c) = c ∷ []

-- a piece is well formed, and with the bytes behind it no longer one begins there
abbrev pub IsPiece : Piece → List ℕ → Type 0
IsPiece (word bs) behind = (begins is_letter bs ≡ true) × (list_all is_word_byte bs ≡ true) × (begins is_word_byte behind ≡ false)
IsPiece (number ds) behind = (begins is_digit ds ≡ true) × (list_all is_digit ds ≡ true) × (begins is_digit behind ≡ false)
IsPiece (symbol c) behind = is_symbol c ≡ true

-- what is left behind spaces and comments, which reach from `#` to a line feed; the test says whether the bytes begin in a comment
abbrev pub after_gap : Bool → List ℕ → List ℕ
after_gap inside [] = []
after_gap true (c ∷ cs) = after_gap (not (nat_eq c 10)) cs
after_gap false (c ∷ cs) = cond (is_space c) (after_gap false cs) (cond (nat_eq c 35) (after_gap true cs) (c ∷ cs))

-- a piece with the place of its first byte
pub record Placed : Type 0 where
  pub place : ℕ
  pub piece : Piece

-- a piece stands first behind the gap that the bytes begin with, and these bytes behind it; the text ends at place `end`
pub record StandsFirst (end : ℕ) (bytes : List ℕ) (p : Placed) (behind : List ℕ) : Type 0 where
  pub spelled : after_gap false bytes ≡ bytes_of p.piece ++ behind
  pub longest : IsPiece p.piece behind
  pub placed : p.place + length (bytes_of p.piece ++ behind) ≡ end

-- the bytes begin with these pieces, and `rest` stands behind them
abbrev pub Cuts : ℕ → List ℕ → List Placed → List ℕ → Type 0
Cuts end bytes [] rest = bytes ≡ rest
Cuts end bytes (p ∷ ps) rest = (behind : List ℕ) × StandsFirst end bytes p behind × Cuts end behind ps rest

-- the bytes are these pieces, and spaces and comments
pub record AreCut (bytes : List ℕ) (ps : List Placed) : Type 0 where
  pub rest : List ℕ
  pub cuts : Cuts (length bytes) bytes ps rest
  pub ends : after_gap false rest ≡ []

-- no piece begins with this byte
abbrev pub begins_no_piece : ℕ → Bool
begins_no_piece c = not (is_letter c || is_digit c || is_symbol c)

-- the first character outside comments that begins no piece and separates none stands at this place
pub record IsBadChar (bytes : List ℕ) (at : ℕ) : Type 0 where
  pub before : List Placed
  pub rest : List ℕ
  pub char : ℕ
  pub behind : List ℕ
  pub cuts : Cuts (length bytes) bytes before rest
  pub next : after_gap false rest ≡ char ∷ behind
  pub bad : begins_no_piece char ≡ true
  pub place : at + length (char ∷ behind) ≡ length bytes

-- the number that digits spell
abbrev pub number_of : List ℕ → ℕ
number_of digits = fold (λ n d. 10 * n + (d - 48)) 0 digits

-- a number of more than 10 digits, or greater than LAST
abbrev pub is_large : Piece → Bool
is_large (word bs) = false
is_large (number ds) = nat_lt 10 (length ds) || int_lt LAST (pos (number_of ds))
is_large (symbol c) = false

-- the first number that is too large stands at this place
pub record IsBadNumber (bytes : List ℕ) (at : ℕ) : Type 0 where
  pub before : List Placed
  pub large : Placed
  pub after : List Placed
  pub cut : AreCut bytes (before ++ large ∷ after)
  pub first : list_any (λ p. is_large p.piece) before ≡ false
  pub bad : is_large large.piece ≡ true
  pub place : large.place ≡ at

-- the bytes are a text of these pieces
pub record IsTextOf (bytes : List ℕ) (ps : List Placed) : Type 0 where
  pub short : length bytes ≤ TEXT_BYTES
  pub utf8 : IsUtf8 bytes
  pub cut : AreCut bytes ps
  pub small : list_any (λ p. is_large p.piece) ps ≡ false

-- the first refusal of bytes that are no text
abbrev pub IsCutRefusal : List ℕ → Refusal → Type 0
IsCutRefusal bytes (Limit which) = (which ≡ 1) × (TEXT_BYTES < length bytes)
IsCutRefusal bytes (NotUtf8 at) = (length bytes ≤ TEXT_BYTES) × IsValidUpTo bytes at
IsCutRefusal bytes (Char at) = (length bytes ≤ TEXT_BYTES) × IsUtf8 bytes × IsBadChar bytes at
IsCutRefusal bytes (Number at) = (length bytes ≤ TEXT_BYTES) × IsUtf8 bytes × IsBadNumber bytes at
IsCutRefusal bytes _ = ⊥

-- the pieces without their places
abbrev pub pieces_of : List Placed → List Piece
pieces_of ps = map (λ p. p.piece) ps

-- the place of the piece of that number, or the text's length where there is none
abbrev pub place_in : ℕ → List Placed → ℕ → ℕ
place_in end ps i = elim (slice_get ps i) [ Some p ↦ p.place | None ↦ end ]
