-- How many tokens of a row pass a test, where the row changes.
use Rattle.std.proofs.Common.{◌≡◌, ℕ, zero, suc, ◌+◌, ◌<◌, ◌≤◌, Bool, cond, List, [], ◌∷◌, ◌++◌, length, insert, remove, set, get_or, slice_get, Some, true, false, refl, ap, ◌∙◌, arith}
use Rattle.timeline_db.specs.Lines.{how_many}
use Rattle.timeline_db.specs.declared.token.Token.{Token}

abbrev one_if : Bool → ℕ
one_if b = cond b 1 0

pub how_many-insert : (test : Token → Bool) (ts : List Token) (i : ℕ) (t : Token) → how_many test (insert ts i t) ≡ how_many test ts + cond (test t) 1 0
how_many-insert test [] zero t = omega arith
how_many-insert test [] (suc i) t = omega arith
how_many-insert test (x ∷ ts) zero t = omega arith
how_many-insert test (x ∷ ts) (suc i) t = let e = how_many-insert test ts i t in omega arith

pub how_many-remove : (test : Token → Bool) (ts : List Token) (i : ℕ) (t : Token) → i < length ts → t ≡ get_or ts i t → how_many test ts ≡ how_many test (remove ts i) + cond (test t) 1 0
how_many-remove test [] i t h e = absurd (omega arith)
how_many-remove test (x ∷ ts) zero t h e = let f : one_if (test t) ≡ one_if (test x) = ap (λ (y : Token). one_if (test y)) e in omega arith
how_many-remove test (x ∷ ts) (suc i) t h e = let f = how_many-remove test ts i t (omega arith) e in omega arith

pub how_many-set : (test : Token → Bool) (ts : List Token) (i : ℕ) (t u : Token) → i < length ts → t ≡ get_or ts i t → how_many test (set ts i u) + cond (test t) 1 0 ≡ how_many test ts + cond (test u) 1 0
how_many-set test [] i t u h e = absurd (omega arith)
how_many-set test (x ∷ ts) zero t u h e = let f : one_if (test t) ≡ one_if (test x) = ap (λ (y : Token). one_if (test y)) e in omega arith
how_many-set test (x ∷ ts) (suc i) t u h e = let f = how_many-set test ts i t u (omega arith) e in omega arith

pub one_at_most : (b : Bool) → cond b 1 0 ≤ 1
one_at_most true = omega arith
one_at_most false = omega arith

pub how_many-most : (test : Token → Bool) (ts : List Token) → how_many test ts ≤ length ts
how_many-most test [] = omega arith
how_many-most test (x ∷ ts) = let e = how_many-most test ts in let f : cond (test x) 1 0 ≤ 1 = one_at_most (test x) in omega arith

-- no token passes a test that none is counted for
pub none_counted : (test : Token → Bool) (ts : List Token) → how_many test ts ≡ 0 → (i : ℕ) (t : Token) → slice_get ts i ≡ Some t → test t ≡ false
none_counted test [] h i t is = absurd (cc)
none_counted test (x ∷ ts) h zero t is = by (test x) refl (let e : t ≡ x = cc in ap test e)
  where
    by : (b : Bool) → test x ≡ b → test t ≡ test x → test t ≡ false
    by false e f = f ∙ e
    by true e f = absurd (let g : one_if (test x) ≡ 1 = ap one_if e in let k : one_if (test x) + how_many test ts ≡ 0 = h in omega arith)
none_counted test (x ∷ ts) h (suc i) t is = none_counted test ts (let k : one_if (test x) + how_many test ts ≡ 0 = h in omega arith) i t is

pub how_many-has : (test : Token → Bool) (ts : List Token) (i : ℕ) (t : Token) → i < length ts → t ≡ get_or ts i t → cond (test t) 1 0 ≤ how_many test ts
how_many-has test ts i t h e = omega (arith, how_many-remove test ts i t h e)

pub how_many-push : (test : Token → Bool) (ts : List Token) (t : Token) → how_many test (ts ++ t ∷ []) ≡ how_many test ts + cond (test t) 1 0
how_many-push test [] t = omega arith
how_many-push test (x ∷ ts) t = let e = how_many-push test ts t in omega arith
