-- Bytes are cut into the pieces that were written.
use Rattle.std.proofs.Common.{◌≡◌, ℕ, ◌-◌, ◌<◌, ◌≤◌, Bool, true, false, List, [], ◌∷◌, ◌++◌, length, nat_eq, refl, ap, ◌∙◌, arith}
use Rattle.std.proofs.lemmas.Bool.{and_parts}
use Rattle.std.proofs.lemmas.Bool.Decides.{nat_tests}
use Rattle.std.proofs.lemmas.Str.{IsAscii-append, IsUtf8-from_ascii}
use Rattle.std.proofs.lemmas.Str.Ascii.{IsAscii-nil, IsAscii-cons}
use Rattle.std.specs.List.{list_all, list_any}
use Rattle.std.specs.Str.{IsAscii}
use Rattle.hs_base.specs.declared.limits.TheConstants.{TEXT_BYTES}
use Rattle.hs_texts.specs.Pieces.{Piece, word, number, symbol, begins, bytes_of, IsPiece, Placed, after_gap, Cuts, IsTextOf, is_letter, is_digit, is_symbol, is_space, is_word_byte, is_large}
use Rattle.text_laws.specs.Writes.{IsCutInto}

-- Bytes of gaps and of pieces.

space_ascii : (c : ℕ) → is_space c ≡ true → c < 128
space_ascii c h = grind (arith, nat_tests)

word_byte_ascii : (c : ℕ) → is_word_byte c ≡ true → c < 128
word_byte_ascii c h = grind (arith, nat_tests)

digit_ascii : (c : ℕ) → is_digit c ≡ true → c < 128
digit_ascii c h = grind (arith, nat_tests)

symbol_ascii : (c : ℕ) → is_symbol c ≡ true → c < 128
symbol_ascii c h = grind (arith, nat_tests)

letter_no_gap : (c : ℕ) → is_letter c ≡ true → (is_space c ≡ false) × (nat_eq c 35 ≡ false)
letter_no_gap c h = (grind (arith, nat_tests), grind (arith, nat_tests))

digit_no_gap : (c : ℕ) → is_digit c ≡ true → (is_space c ≡ false) × (nat_eq c 35 ≡ false)
digit_no_gap c h = (grind (arith, nat_tests), grind (arith, nat_tests))

symbol_no_gap : (c : ℕ) → is_symbol c ≡ true → (is_space c ≡ false) × (nat_eq c 35 ≡ false)
symbol_no_gap c h = (grind (arith, nat_tests), grind (arith, nat_tests))

-- spaces and symbols end words
pub space_ends : (c : ℕ) → is_space c ≡ true → is_word_byte c ≡ false
space_ends c h = grind (arith, nat_tests)

pub symbol_ends : (c : ℕ) → is_symbol c ≡ true → is_word_byte c ≡ false
symbol_ends c h = grind (arith, nat_tests)

digit_in_word : (c : ℕ) → is_word_byte c ≡ false → is_digit c ≡ false
digit_in_word c h = grind (arith, nat_tests)

-- what ends a word ends a number
pub ends_number : (bytes : List ℕ) → begins is_word_byte bytes ≡ false → begins is_digit bytes ≡ false
ends_number [] h = refl
ends_number (c ∷ bytes) h = digit_in_word c h

all_ascii : (test : ℕ → Bool) → ((c : ℕ) → test c ≡ true → c < 128) → (bs : List ℕ) → list_all test bs ≡ true → IsAscii bs
all_ascii test t [] h = IsAscii-nil
all_ascii test t (c ∷ cs) h = IsAscii-cons c cs (t c (and_parts _ _ h).0) (all_ascii test t cs (and_parts _ _ h).1)

piece_ascii : (p : Piece) (behind : List ℕ) → IsPiece p behind → IsAscii (bytes_of p)
piece_ascii (word bs) behind h = all_ascii is_word_byte word_byte_ascii bs h.1
piece_ascii (number ds) behind h = all_ascii is_digit digit_ascii ds h.1
piece_ascii (symbol c) behind h = IsAscii-cons c [] (symbol_ascii c h) IsAscii-nil

gap_over : (c : ℕ) (bytes : List ℕ) → (is_space c ≡ false) × (nat_eq c 35 ≡ false) → after_gap false (c ∷ bytes) ≡ c ∷ bytes
gap_over c bytes h = rw (h.0, h.1) refl

-- no gap stands before a piece
no_gap_before : (p : Piece) (behind : List ℕ) → IsPiece p behind → after_gap false (bytes_of p ++ behind) ≡ bytes_of p ++ behind
no_gap_before (word []) behind h = absurd cc
no_gap_before (word (c ∷ cs)) behind h = gap_over c (cs ++ behind) (letter_no_gap c h.0)
no_gap_before (number []) behind h = absurd cc
no_gap_before (number (c ∷ cs)) behind h = gap_over c (cs ++ behind) (digit_no_gap c h.0)
no_gap_before (symbol c) behind h = gap_over c behind (symbol_no_gap c h)

-- The laws.

-- no bytes are no pieces
pub cut_nothing : (end : ℕ) → IsCutInto end [] []
cut_nothing end = record { placed = []; rest = []; cuts = refl; ends = refl; these = refl; small = refl; ascii = IsAscii-nil }

space_skipped : (c : ℕ) (bytes : List ℕ) → is_space c ≡ true → after_gap false (c ∷ bytes) ≡ after_gap false bytes
space_skipped c bytes h = rw h refl

space_cut : (end c : ℕ) (bytes rest : List ℕ) (ps : List Placed) → is_space c ≡ true → Cuts end bytes ps rest → after_gap false rest ≡ [] → (last : List ℕ) × Cuts end (c ∷ bytes) ps last × (after_gap false last ≡ [])
space_cut end c bytes rest [] h k e = (c ∷ bytes, refl, space_skipped c bytes h ∙ ap (after_gap false) k ∙ e)
space_cut end c bytes rest (p ∷ ps) h k e = (rest, (k.0, record { spelled = space_skipped c bytes h ∙ k.1.spelled; longest = k.1.longest; placed = k.1.placed }, k.2), e)

-- a space adds no piece
pub cut_space : (end c : ℕ) (bytes : List ℕ) (ps : List Piece) → is_space c ≡ true → IsCutInto end bytes ps → IsCutInto end (c ∷ bytes) ps
cut_space end c bytes ps h k =
    let s = space_cut end c bytes k.rest k.placed h k.cuts k.ends in
    record { placed = k.placed; rest = s.0; cuts = s.1; ends = s.2; these = k.these; small = k.small; ascii = IsAscii-cons c bytes (space_ascii c h) k.ascii }

none_large : (p : Placed) (ps : List Placed) → is_large p.piece ≡ false → list_any (λ p. is_large p.piece) ps ≡ false → list_any (λ p. is_large p.piece) (p ∷ ps) ≡ false
none_large p ps h k = rw (h, k) refl

-- a piece that isn't longer with what stands behind it stands first
pub cut_piece : (end : ℕ) (p : Piece) (bytes : List ℕ) (ps : List Piece) → IsPiece p bytes → is_large p ≡ false → length (bytes_of p ++ bytes) ≤ end → IsCutInto end bytes ps → IsCutInto end (bytes_of p ++ bytes) (p ∷ ps)
cut_piece end p bytes ps h small le k =
    let here : Placed = record { place = end - length (bytes_of p ++ bytes); piece = p } in
    record {
      placed = here ∷ k.placed;
      rest = k.rest;
      cuts = (bytes, record { spelled = no_gap_before p bytes h; longest = h; placed = omega (arith, le) }, k.cuts);
      ends = k.ends;
      these = ap (λ (qs : List Piece). p ∷ qs) k.these;
      small = none_large here k.placed small k.small;
      ascii = IsAscii-append (bytes_of p) bytes (piece_ascii p bytes h) k.ascii;
    }

-- whole bytes that are cut are a text
pub cut_is_text : (bytes : List ℕ) (ps : List Piece) → length bytes ≤ TEXT_BYTES → (k : IsCutInto (length bytes) bytes ps) → IsTextOf bytes k.placed
cut_is_text bytes ps short k = record {
  short = short;
  utf8 = IsUtf8-from_ascii bytes k.ascii;
  cut = record { rest = k.rest; cuts = k.cuts; ends = k.ends };
  small = k.small;
}
