-- A text has one answer: what it spells, or one refusal.
use Rattle.std.proofs.Common.{◌≡◌, ℕ, Bool, true, false, List, [], ◌∷◌, ◌++◌, length, sym, ap, ◌∙◌, subst, arith}
use Rattle.std.specs.List.{list_any}
use Rattle.std.specs.Str.{IsUtf8, IsValidUpTo}
use Rattle.std.proofs.Math.Seq.{take-length}
use Rattle.std.proofs.lemmas.Str.{utf8_valid_len-IsValidUpTo}
use Rattle.hs_texts.specs.declared.ast.Ast.{Ast}
use Rattle.hs_texts.specs.declared.refusal.Refusal.{Refusal}
use Rattle.hs_texts.specs.declared.refusal.Refusal.TheVariants.{NotUtf8, Char, Expected, Number, Trailing, Twice, Unknown, Range, Limit, NoBegin, Horizons, SameVar, SameBy, Memory}
use Rattle.hs_texts.specs.Pieces.{Placed, is_large, IsBadNumber, IsTextOf, IsCutRefusal, pieces_of, place_in}
use Rattle.hs_texts.specs.Languages.{IsExpected, IsTrailing}
use Rattle.hs_texts.specs.MissionText.{MissionText}
use Rattle.hs_texts.specs.MissionSpelling.{Spells, IsExpectedIn, IsTrailingIn, IsReadRefusal}
use Rattle.text_laws.specs.MissionReading.{mission_at}
use Rattle.text_laws.proofs.PieceLemmas.{cut_one, cut_or_bad, bad_char_one}
use Rattle.text_laws.proofs.MissionLemmas.{mission_reads}
use Rattle.text_laws.proofs.AnswerLemmas.{sentence_one, spelled_or_expected, spelled_or_trailing, expected_one, expected_or_trailing, trailing_one}

abbrev any_large : List Placed → Bool
any_large ps = list_any (λ p. is_large p.piece) ps

-- UTF-8 is valid up to its end
utf8_or_not : (bytes : List ℕ) (n : ℕ) → IsUtf8 bytes → IsValidUpTo bytes n → ⊥
utf8_or_not bytes n u v = v.longest (length bytes) v.short (subst (λ (zs : List ℕ). IsUtf8 zs) (sym (take-length bytes)) u)

valid_one : (bytes : List ℕ) (m n : ℕ) → IsValidUpTo bytes m → IsValidUpTo bytes n → m ≡ n
valid_one bytes m n h k = sym (utf8_valid_len-IsValidUpTo bytes m h) ∙ utf8_valid_len-IsValidUpTo bytes n k

large_found : (before after : List Placed) (p : Placed) → is_large p.piece ≡ true → any_large (before ++ p ∷ after) ≡ true
large_found [] after p h = grind arith
large_found (q ∷ before) after p h = let k = large_found before after p h in grind arith

-- the first large number is one
first_large : (b c a d : List Placed) (p q : Placed) → b ++ p ∷ a ≡ c ++ q ∷ d → any_large b ≡ false → any_large c ≡ false → is_large p.piece ≡ true → is_large q.piece ≡ true → p ≡ q
first_large [] [] a d p q e m n h k = cc
first_large [] (r ∷ c) a d p q e m n h k = let same : p ≡ r = cc in let l : is_large r.piece ≡ true = subst (λ (z : Placed). is_large z.piece ≡ true) same h in absurd (grind arith)
first_large (r ∷ b) [] a d p q e m n h k = let same : q ≡ r = cc in let l : is_large r.piece ≡ true = subst (λ (z : Placed). is_large z.piece ≡ true) same k in absurd (grind arith)
first_large (r ∷ b) (s ∷ c) a d p q e m n h k = let rest : b ++ p ∷ a ≡ c ++ q ∷ d = cc in first_large b c a d p q rest (grind arith) (grind arith) h k

bad_number_one : (bytes : List ℕ) (m n : ℕ) → IsBadNumber bytes m → IsBadNumber bytes n → m ≡ n
bad_number_one bytes m n h k =
    let e = cut_one bytes (h.before ++ h.large ∷ h.after) (k.before ++ k.large ∷ k.after) h.cut k.cut in
    let same = first_large h.before k.before h.after k.after h.large k.large e h.first k.first h.bad k.bad in
    sym h.place ∙ ap (λ (p : Placed). p.place) same ∙ k.place

-- bytes are a text, or their cut is refused
pub text_or_refused : (bytes : List ℕ) (ps : List Placed) (r : Refusal) → IsTextOf bytes ps → IsCutRefusal bytes r → ⊥
text_or_refused bytes ps (Limit w) t h = omega (arith, t.short, h.1)
text_or_refused bytes ps (NotUtf8 at) t h = utf8_or_not bytes at t.utf8 h.1
text_or_refused bytes ps (Char at) t h = cut_or_bad bytes ps at t.cut h.2
text_or_refused bytes ps (Number at) t h =
    let k = h.2 in
    let e = cut_one bytes ps (k.before ++ k.large ∷ k.after) t.cut k.cut in
    cc (sym t.small ∙ ap any_large e ∙ large_found k.before k.after k.large k.bad)
text_or_refused bytes ps (Expected at) t h = h
text_or_refused bytes ps (Trailing at) t h = h
text_or_refused bytes ps (Twice n) t h = h
text_or_refused bytes ps (Unknown n) t h = h
text_or_refused bytes ps (Range n) t h = h
text_or_refused bytes ps (NoBegin n) t h = h
text_or_refused bytes ps (Horizons n) t h = h
text_or_refused bytes ps (SameVar n) t h = h
text_or_refused bytes ps (SameBy n) t h = h
text_or_refused bytes ps Memory t h = h

-- the cut has one refusal
pub cut_refusal_one : (bytes : List ℕ) (r s : Refusal) → IsCutRefusal bytes r → IsCutRefusal bytes s → r ≡ s
cut_refusal_one bytes (Limit w) (Limit v) h k = ap Limit (h.0 ∙ sym k.0)
cut_refusal_one bytes (NotUtf8 m) (NotUtf8 n) h k = ap NotUtf8 (valid_one bytes m n h.1 k.1)
cut_refusal_one bytes (Char m) (Char n) h k = ap Char (bad_char_one bytes m n h.2 k.2)
cut_refusal_one bytes (Number m) (Number n) h k = ap Number (bad_number_one bytes m n h.2 k.2)
cut_refusal_one bytes (Limit w) (NotUtf8 n) h k = absurd (omega (arith, h.1, k.0))
cut_refusal_one bytes (Limit w) (Char n) h k = absurd (omega (arith, h.1, k.0))
cut_refusal_one bytes (Limit w) (Number n) h k = absurd (omega (arith, h.1, k.0))
cut_refusal_one bytes (NotUtf8 m) (Limit w) h k = absurd (omega (arith, h.0, k.1))
cut_refusal_one bytes (Char m) (Limit w) h k = absurd (omega (arith, h.0, k.1))
cut_refusal_one bytes (Number m) (Limit w) h k = absurd (omega (arith, h.0, k.1))
cut_refusal_one bytes (NotUtf8 m) (Char n) h k = absurd (utf8_or_not bytes m k.1 h.1)
cut_refusal_one bytes (NotUtf8 m) (Number n) h k = absurd (utf8_or_not bytes m k.1 h.1)
cut_refusal_one bytes (Char m) (NotUtf8 n) h k = absurd (utf8_or_not bytes n h.1 k.1)
cut_refusal_one bytes (Number m) (NotUtf8 n) h k = absurd (utf8_or_not bytes n h.1 k.1)
cut_refusal_one bytes (Char m) (Number n) h k = absurd (cut_or_bad bytes _ m (k.2).cut h.2)
cut_refusal_one bytes (Number m) (Char n) h k = absurd (cut_or_bad bytes _ n (h.2).cut k.2)
cut_refusal_one bytes _ _ h k = absurd (grind arith)

-- The places of pieces.

trailing_place : (bytes : List ℕ) (ps : List Placed) (m n : ℕ) → IsTextOf bytes ps → IsTrailingIn bytes m → (k : IsTrailingIn bytes n) → m ≡ n
trailing_place bytes ps m n t h k =
    let e = cut_one bytes h.pieces k.pieces h.text.cut k.text.cut in
    let i = trailing_one MissionText mission_at mission_reads (pieces_of k.pieces) h.trailing.index k.trailing.index (subst (λ (qs : List Placed). IsTrailing MissionText (pieces_of qs) h.trailing.index) e h.trailing.trailing) k.trailing.trailing in
    h.trailing.place ∙ ap (λ (qs : List Placed). place_in (length bytes) qs h.trailing.index) e ∙ ap (place_in (length bytes) k.pieces) i ∙ sym k.trailing.place

expected_place : (bytes : List ℕ) (m n : ℕ) → IsExpectedIn bytes m → IsExpectedIn bytes n → m ≡ n
expected_place bytes m n h k =
    let e = cut_one bytes h.pieces k.pieces h.text.cut k.text.cut in
    let i = expected_one MissionText (pieces_of k.pieces) h.expected.index k.expected.index (subst (λ (qs : List Placed). IsExpected MissionText (pieces_of qs) h.expected.index) e h.expected.expected) k.expected.expected in
    h.expected.place ∙ ap (λ (qs : List Placed). place_in (length bytes) qs h.expected.index) e ∙ ap (place_in (length bytes) k.pieces) i ∙ sym k.expected.place

expected_then_trailing : (bytes : List ℕ) (m n : ℕ) → IsExpectedIn bytes m → IsTrailingIn bytes n → ⊥
expected_then_trailing bytes m n h k =
    let e = cut_one bytes h.pieces k.pieces h.text.cut k.text.cut in
    expected_or_trailing MissionText mission_at mission_reads (pieces_of k.pieces) h.expected.index k.trailing.index (subst (λ (qs : List Placed). IsExpected MissionText (pieces_of qs) h.expected.index) e h.expected.expected) k.trailing.trailing

-- a refusal is of the one kind, of the other, or of the cut
pub data Kind (bytes : List ℕ) : Refusal → Type 0 where
  by_expected : (at : ℕ) → IsExpectedIn bytes at → Kind bytes (Expected at)
  by_trailing : (at : ℕ) → IsTrailingIn bytes at → Kind bytes (Trailing at)
  by_cut : (r : Refusal) → IsCutRefusal bytes r → Kind bytes r

kind_of : (bytes : List ℕ) (r : Refusal) → IsReadRefusal bytes r → Kind bytes r
kind_of bytes (Expected at) h = by_expected at h
kind_of bytes (Trailing at) h = by_trailing at h
kind_of bytes (Limit w) h = by_cut (Limit w) h
kind_of bytes (NotUtf8 at) h = by_cut (NotUtf8 at) h
kind_of bytes (Char at) h = by_cut (Char at) h
kind_of bytes (Number at) h = by_cut (Number at) h
kind_of bytes (Twice n) h = absurd h
kind_of bytes (Unknown n) h = absurd h
kind_of bytes (Range n) h = absurd h
kind_of bytes (NoBegin n) h = absurd h
kind_of bytes (Horizons n) h = absurd h
kind_of bytes (SameVar n) h = absurd h
kind_of bytes (SameBy n) h = absurd h
kind_of bytes Memory h = absurd h

kinds_one : (bytes : List ℕ) (r s : Refusal) → Kind bytes r → Kind bytes s → r ≡ s
kinds_one bytes r s (by_expected m h) (by_expected n k) = ap Expected (expected_place bytes m n h k)
kinds_one bytes r s (by_trailing m h) (by_trailing n k) = ap Trailing (trailing_place bytes h.pieces m n h.text h k)
kinds_one bytes r s (by_cut q h) (by_cut t k) = cut_refusal_one bytes q t h k
kinds_one bytes r s (by_expected m h) (by_trailing n k) = absurd (expected_then_trailing bytes m n h k)
kinds_one bytes r s (by_trailing m h) (by_expected n k) = absurd (expected_then_trailing bytes n m k h)
kinds_one bytes r s (by_expected m h) (by_cut t k) = absurd (text_or_refused bytes h.pieces t h.text k)
kinds_one bytes r s (by_trailing m h) (by_cut t k) = absurd (text_or_refused bytes h.pieces t h.text k)
kinds_one bytes r s (by_cut q h) (by_expected n k) = absurd (text_or_refused bytes k.pieces q k.text h)
kinds_one bytes r s (by_cut q h) (by_trailing n k) = absurd (text_or_refused bytes k.pieces q k.text h)

-- reading has one refusal
pub read_refusal_one : (bytes : List ℕ) (r s : Refusal) → IsReadRefusal bytes r → IsReadRefusal bytes s → r ≡ s
read_refusal_one bytes r s h k = kinds_one bytes r s (kind_of bytes r h) (kind_of bytes s k)

spelled_or_kind : (bytes : List ℕ) (a : Ast) (r : Refusal) → Spells bytes a → Kind bytes r → ⊥
spelled_or_kind bytes a r s (by_expected m h) =
    let e = cut_one bytes s.pieces h.pieces s.text.cut h.text.cut in
    spelled_or_expected MissionText (pieces_of h.pieces) h.expected.index a (subst (λ (qs : List Placed). MissionText (pieces_of qs) a) e s.sentence) h.expected.expected
spelled_or_kind bytes a r s (by_trailing m h) =
    let e = cut_one bytes s.pieces h.pieces s.text.cut h.text.cut in
    spelled_or_trailing MissionText mission_at mission_reads (pieces_of h.pieces) h.trailing.index a (subst (λ (qs : List Placed). MissionText (pieces_of qs) a) e s.sentence) h.trailing.trailing
spelled_or_kind bytes a r s (by_cut t h) = text_or_refused bytes s.pieces t s.text h

-- a text that spells a mission isn't refused
pub spelled_or_refused : (bytes : List ℕ) (a : Ast) (r : Refusal) → Spells bytes a → IsReadRefusal bytes r → ⊥
spelled_or_refused bytes a r s h = spelled_or_kind bytes a r s (kind_of bytes r h)

-- and spells one alone
pub spelled_one : (bytes : List ℕ) (a b : Ast) → Spells bytes a → Spells bytes b → a ≡ b
spelled_one bytes a b s t =
    let e = cut_one bytes s.pieces t.pieces s.text.cut t.text.cut in
    sentence_one MissionText mission_at mission_reads (pieces_of t.pieces) a b (subst (λ (qs : List Placed). MissionText (pieces_of qs) a) e s.sentence) t.sentence
