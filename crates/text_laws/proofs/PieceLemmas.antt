-- Bytes are cut into pieces in one way.
use Rattle.std.proofs.Common.{◌≡◌, ℕ, Bool, true, false, List, [], ◌∷◌, ◌++◌, length, refl, sym, ap, ◌∙◌, subst, arith}
use Rattle.std.proofs.lemmas.Bool.{and_parts, both_ways}
use Rattle.std.proofs.lemmas.Bool.Decides.{nat_tests}
use Rattle.std.specs.List.{list_all}
use Rattle.hs_texts.specs.Pieces.{Piece, word, number, symbol, begins, bytes_of, IsPiece, Placed, after_gap, Cuts, AreCut, is_letter, is_digit, is_symbol, is_word_byte, begins_no_piece, IsBadChar}

-- two longest runs at the front of the same bytes are the same
longest_run : (test : ℕ → Bool) (xs ys a b : List ℕ) → list_all test xs ≡ true → list_all test ys ≡ true → begins test a ≡ false → begins test b ≡ false → xs ++ a ≡ ys ++ b → (xs ≡ ys) × (a ≡ b)
longest_run test [] [] a b p q na nb e = (refl, e)
longest_run test [] (y ∷ ys) a b p q na nb e = absurd (both_ways (test y) (sym (ap (begins test) e) ∙ na) (and_parts _ _ q).0)
longest_run test (x ∷ xs) [] a b p q na nb e = absurd (both_ways (test x) (ap (begins test) e ∙ nb) (and_parts _ _ p).0)
longest_run test (x ∷ xs) (y ∷ ys) a b p q na nb e =
    let same : x ≡ y = cc in
    let rest : xs ++ a ≡ ys ++ b = cc in
    let r = longest_run test xs ys a b (and_parts _ _ p).1 (and_parts _ _ q).1 na nb rest in
    (ap (λ (z : ℕ). z ∷ xs) same ∙ ap (λ (zs : List ℕ). y ∷ zs) r.0, r.1)

letter_digit : (c : ℕ) → is_letter c ≡ true → is_digit c ≡ true → ⊥
letter_digit c l d = absurd (grind (arith, nat_tests))

letter_symbol : (c : ℕ) → is_letter c ≡ true → is_symbol c ≡ true → ⊥
letter_symbol c l d = absurd (grind (arith, nat_tests))

digit_symbol : (c : ℕ) → is_digit c ≡ true → is_symbol c ≡ true → ⊥
digit_symbol c l d = absurd (grind (arith, nat_tests))

-- the first byte of a piece says of which kind it is
pub piece_one : (p q : Piece) (a b : List ℕ) → IsPiece p a → IsPiece q b → bytes_of p ++ a ≡ bytes_of q ++ b → (p ≡ q) × (a ≡ b)
piece_one (word xs) (word ys) a b h k e = let r = longest_run is_word_byte xs ys a b h.1 k.1 h.2 k.2 e in (ap word r.0, r.1)
piece_one (number xs) (number ys) a b h k e = let r = longest_run is_digit xs ys a b h.1 k.1 h.2 k.2 e in (ap number r.0, r.1)
piece_one (symbol c) (symbol d) a b h k e = (ap symbol cc, cc)
piece_one (word (x ∷ xs)) (number (y ∷ ys)) a b h k e = let same : x ≡ y = cc in absurd (letter_digit y (subst (λ (z : ℕ). is_letter z ≡ true) same h.0) k.0)
piece_one (word (x ∷ xs)) (symbol d) a b h k e = let same : x ≡ d = cc in absurd (letter_symbol d (subst (λ (z : ℕ). is_letter z ≡ true) same h.0) k)
piece_one (number (x ∷ xs)) (word (y ∷ ys)) a b h k e = let same : x ≡ y = cc in absurd (letter_digit y k.0 (subst (λ (z : ℕ). is_digit z ≡ true) same h.0))
piece_one (number (x ∷ xs)) (symbol d) a b h k e = let same : x ≡ d = cc in absurd (digit_symbol d (subst (λ (z : ℕ). is_digit z ≡ true) same h.0) k)
piece_one (symbol c) (word (y ∷ ys)) a b h k e = let same : c ≡ y = cc in absurd (letter_symbol y k.0 (subst (λ (z : ℕ). is_symbol z ≡ true) same h))
piece_one (symbol c) (number (y ∷ ys)) a b h k e = let same : c ≡ y = cc in absurd (digit_symbol y k.0 (subst (λ (z : ℕ). is_symbol z ≡ true) same h))
piece_one (word []) _ a b h k e = absurd cc
piece_one (number []) _ a b h k e = absurd cc
piece_one _ (word []) a b h k e = absurd cc
piece_one _ (number []) a b h k e = absurd cc

-- no piece stands first in these bytes
pub record HasNoPiece (bytes : List ℕ) : Type 0 where
  pub none : (p : Piece) (behind : List ℕ) → bytes ≡ bytes_of p ++ behind → IsPiece p behind → ⊥

-- none does in no bytes
pub nothing_left : (bytes : List ℕ) → bytes ≡ [] → HasNoPiece bytes
nothing_left bytes e = record { none = λ p behind f h. some_byte p behind h (sym f ∙ e) } where
  some_byte : (p : Piece) (a : List ℕ) → IsPiece p a → bytes_of p ++ a ≡ [] → ⊥
  some_byte (word []) a h e = absurd cc
  some_byte (number []) a h e = absurd cc
  some_byte (word (x ∷ xs)) a h e = absurd cc
  some_byte (number (x ∷ xs)) a h e = absurd cc
  some_byte (symbol c) a h e = absurd cc

-- nor behind a byte that begins no piece
pub bad_byte_first : (bytes behind : List ℕ) (c : ℕ) → bytes ≡ c ∷ behind → begins_no_piece c ≡ true → HasNoPiece bytes
bad_byte_first bytes behind c e bad = record { none = λ p rest f h. begins_well p rest behind c h bad (sym f ∙ e) } where
  begins_well : (p : Piece) (a rest : List ℕ) (c : ℕ) → IsPiece p a → begins_no_piece c ≡ true → bytes_of p ++ a ≡ c ∷ rest → ⊥
  begins_well (word []) a rest c h bad e = absurd cc
  begins_well (number []) a rest c h bad e = absurd cc
  begins_well (word (x ∷ xs)) a rest c h bad e = let same : x ≡ c = cc in let l : is_letter c ≡ true = subst (λ (z : ℕ). is_letter z ≡ true) same h.0 in absurd (grind arith)
  begins_well (number (x ∷ xs)) a rest c h bad e = let same : x ≡ c = cc in let l : is_digit c ≡ true = subst (λ (z : ℕ). is_digit z ≡ true) same h.0 in absurd (grind arith)
  begins_well (symbol d) a rest c h bad e = let same : d ≡ c = cc in let l : is_symbol c ≡ true = subst (λ (z : ℕ). is_symbol z ≡ true) same h in absurd (grind arith)

placed_same : (p q : Placed) → p.place ≡ q.place → p.piece ≡ q.piece → p ≡ q
placed_same p q e f = grind arith

-- bytes are cut in one way, as far as pieces stand first
pub cuts_one : (end : ℕ) (bytes : List ℕ) (ps qs : List Placed) (a b : List ℕ) → HasNoPiece (after_gap false a) → HasNoPiece (after_gap false b) → Cuts end bytes ps a → Cuts end bytes qs b → (ps ≡ qs) × (a ≡ b)
cuts_one end bytes [] [] a b m n h k = (refl, sym h ∙ k)
cuts_one end bytes [] (q ∷ qs) a b m n h k = absurd (m.none q.piece k.0 (ap (after_gap false) (sym h) ∙ k.1.spelled) k.1.longest)
cuts_one end bytes (p ∷ ps) [] a b m n h k = absurd (n.none p.piece h.0 (ap (after_gap false) (sym k) ∙ h.1.spelled) h.1.longest)
cuts_one end bytes (p ∷ ps) (q ∷ qs) a b m n h k =
    let r = piece_one p.piece q.piece h.0 k.0 h.1.longest k.1.longest (sym h.1.spelled ∙ k.1.spelled) in
    let lengths : length (bytes_of p.piece ++ h.0) ≡ length (bytes_of q.piece ++ k.0) = ap length (sym h.1.spelled ∙ k.1.spelled) in
    let here : p ≡ q = placed_same p q (omega (arith, h.1.placed, k.1.placed)) r.0 in
    let later = cuts_one end k.0 ps qs a b m n (subst (λ (zs : List ℕ). Cuts end zs ps a) r.1 h.2) k.2 in
    (ap (λ (z : Placed). z ∷ ps) here ∙ ap (λ (zs : List Placed). q ∷ zs) later.0, later.1)

-- a text is cut in one way
pub cut_one : (bytes : List ℕ) (ps qs : List Placed) → AreCut bytes ps → AreCut bytes qs → ps ≡ qs
cut_one bytes ps qs h k = (cuts_one (length bytes) bytes ps qs h.rest k.rest (nothing_left _ h.ends) (nothing_left _ k.ends) h.cuts k.cuts).0

-- a text with a bad character isn't cut
pub cut_or_bad : (bytes : List ℕ) (ps : List Placed) (at : ℕ) → AreCut bytes ps → IsBadChar bytes at → ⊥
cut_or_bad bytes ps at h k =
    let r = cuts_one (length bytes) bytes ps k.before h.rest k.rest (nothing_left _ h.ends) (bad_byte_first _ k.behind k.char k.next k.bad) h.cuts k.cuts in
    let e : [] ≡ k.char ∷ k.behind = sym h.ends ∙ ap (after_gap false) r.1 ∙ k.next in
    absurd cc

-- the first bad character stands at one place
pub bad_char_one : (bytes : List ℕ) (m n : ℕ) → IsBadChar bytes m → IsBadChar bytes n → m ≡ n
bad_char_one bytes m n h k =
    let r = cuts_one (length bytes) bytes h.before k.before h.rest k.rest (bad_byte_first _ h.behind h.char h.next h.bad) (bad_byte_first _ k.behind k.char k.next k.bad) h.cuts k.cuts in
    let e : h.char ∷ h.behind ≡ k.char ∷ k.behind = sym h.next ∙ ap (after_gap false) r.1 ∙ k.next in
    omega (arith, ap length e, h.place, k.place)
