-- Prefixes of histories, and the placed entries of one number.
use Rattle.std.proofs.Common.{Bool, ◌≡◌, ◌≢◌, ℕ, zero, suc, ◌+◌, ◌<◌, ◌≤◌, ◌==◌, List, [], ◌∷◌, ◌++◌, length, true, false, refl, sym, ap, ◌∙◌, arith, append_assoc, append-nil, cond, nat_lt}
use Rattle.std.specs.List.{AllByRecursion}
use Rattle.std.proofs.lemmas.Bool.Decides.{nat_tests}
use Rattle.std.proofs.lemmas.List.Elements.{filter-append}
use Rattle.hs_machine.specs.declared.history.Entry.{Entry}
use Rattle.hs_machine.specs.Histories.{IsPrefix}
use Rattle.exec_lock.specs.declared.view.Placed.{Placed}
use Rattle.exec_lock.specs.Passes.{placed, of, longer, shorter}
use Rattle.exec_lock.specs.Rule.{when}

-- a list is a prefix of itself
pub prefix_self : (xs : List Entry) → IsPrefix xs xs
prefix_self xs = ([], sym (append-nil xs))

-- the empty list is a prefix of each
pub prefix_nil : (xs : List Entry) → IsPrefix [] xs
prefix_nil xs = (xs, refl)

-- a prefix of a prefix is one
pub prefix_trans : (xs ys zs : List Entry) → IsPrefix xs ys → IsPrefix ys zs → IsPrefix xs zs
prefix_trans xs ys zs p q = (p.0 ++ q.0, q.1 ∙ (ap (λ l. l ++ q.0) p.1 ∙ append_assoc xs p.0 q.0))

-- a list is a prefix of what it grows to
pub prefix_more : (xs ys : List Entry) → IsPrefix xs (xs ++ ys)
prefix_more xs ys = (ys, refl)

-- of two prefixes of one list the shorter is a prefix of the longer
pub prefix_two : (xs ys zs : List Entry) → IsPrefix xs zs → IsPrefix ys zs → length xs ≤ length ys → IsPrefix xs ys
prefix_two [] ys zs p q h = (ys, refl)
prefix_two (x ∷ xs) [] zs p q h = absurd (omega arith)
prefix_two (x ∷ xs) (y ∷ ys) [] p q h = absurd (cc)
prefix_two (x ∷ xs) (y ∷ ys) (z ∷ zs) p q h =
    let a : zs ≡ xs ++ p.0 = cc in let b : zs ≡ ys ++ q.0 = cc in let s : x ≡ y = cc in
    let r = prefix_two xs ys zs (p.0, a) (q.0, b) (omega (arith, h)) in (r.0, λ i. sym s i ∷ r.1 i)

by_lengths : (xs ys log : List Entry) → IsPrefix xs log → IsPrefix ys log → (b : Bool) → nat_lt (length xs) (length ys) ≡ b → IsPrefix (cond b xs ys) (cond b ys xs)
by_lengths xs ys log p q true is = prefix_two xs ys log p q (grind (arith, nat_tests, is))
by_lengths xs ys log p q false is = prefix_two ys xs log q p (grind (arith, nat_tests, is))

-- the shorter of two prefixes of one list is a prefix of the longer one
pub shorter_first : (xs ys log : List Entry) → IsPrefix xs log → IsPrefix ys log → IsPrefix (shorter xs ys) (longer xs ys)
shorter_first xs ys log p q = by_lengths xs ys log p q (nat_lt (length xs) (length ys)) refl

one_of : (P : List Entry → Type 0) (b : Bool) (xs ys : List Entry) → P xs → P ys → P (cond b ys xs)
one_of P true xs ys p q = q
one_of P false xs ys p q = p

-- the longer of two prefixes of one list is a prefix of it
pub longer_prefix : (xs ys log : List Entry) → IsPrefix xs log → IsPrefix ys log → IsPrefix (longer xs ys) log
longer_prefix xs ys log p q = one_of (λ l. IsPrefix l log) (nat_lt (length xs) (length ys)) xs ys p q

-- places go on behind a first part
pub placed-append : (k : ℕ) (xs ys : List Entry) → placed k (xs ++ ys) ≡ placed k xs ++ placed (k + length xs) ys
placed-append k [] ys = let e : k ≡ k + 0 = omega arith in ap (λ m. placed m ys) e
placed-append k (x ∷ xs) ys = let e : suc k + length xs ≡ k + suc (length xs) = omega arith in
    ap (λ l. record { place = suc k; entry = x } ∷ l) (placed-append (suc k) xs ys ∙ ap (λ m. placed (suc k) xs ++ placed m ys) e)

-- the entries of one number in two parts
pub of-append : (n : ℕ) (xs ys : List Placed) → of n (xs ++ ys) ≡ of n xs ++ of n ys
of-append n xs ys = filter-append (λ (c : Placed). c.entry.by == n) xs ys

-- entries of one number are none of another's
pub of_other : (n by k : ℕ) (es : List Entry) → AllByRecursion (λ (e : Entry). e.by ≡ by) es → n ≢ by → of n (placed k es) ≡ []
of_other n by k [] h ne = refl
of_other n by k (e ∷ es) h ne = let off : (e.by == n) ≡ false = grind (arith, nat_tests, h.0) in let r = of_other n by (suc k) es h.1 ne in rw off r

-- nothing at 0
pub when_zero : (k : ℕ) (xs : List Placed) → k ≡ 0 → when k xs ≡ []
when_zero zero xs e = refl
when_zero (suc k) xs e = absurd (omega arith)

-- the whole list above 0
pub when_some : (k : ℕ) (xs : List Placed) → 0 < k → when k xs ≡ xs
when_some zero xs e = absurd (omega arith)
when_some (suc k) xs e = refl

-- no entries at any number
pub when_nil : (k : ℕ) → when k [] ≡ []
when_nil zero = refl
when_nil (suc k) = refl

-- a pass that has just its calls among A has them when both lists gain G
pub own_grows : (k : ℕ) (calls A G : List Placed) → calls ≡ when k A → (k ≡ 0 → G ≡ []) → calls ++ G ≡ when k (A ++ G)
own_grows zero calls A G e none = λ i. e i ++ none refl i
own_grows (suc k) calls A G e none = ap (λ l. l ++ G) e

-- a pass that has just its calls among A has them when A gains entries of others
pub own_stays : (k : ℕ) (calls A G : List Placed) → calls ≡ when k A → (0 < k → G ≡ []) → calls ≡ when k (A ++ G)
own_stays zero calls A G e none = e
own_stays (suc k) calls A G e none = e ∙ (sym (append-nil A) ∙ ap (λ l. A ++ l) (sym (none (omega arith))))

-- fewer numbers keep just their calls, where those that are given up have none
pub own_fewer : (c k : ℕ) (xs A : List Placed) → xs ≡ when c A → k ≤ c → (0 < c → k ≡ 0 → xs ≡ []) → xs ≡ when k A
own_fewer zero zero xs A e l n = e
own_fewer zero (suc k) xs A e l n = absurd (omega (arith, l))
own_fewer (suc c) zero xs A e l n = n (omega arith) refl
own_fewer (suc c) (suc k) xs A e l n = e

-- no calls are just those of a number that made none
pub own_none : (c : ℕ) (A : List Placed) → (0 < c → A ≡ []) → [] ≡ when c A
own_none zero A h = refl
own_none (suc c) A h = sym (h (omega arith))

-- two passes' calls together are just those of the numbers of both
pub own_both : (a b : ℕ) (xs ys A : List Placed) → a + b ≤ 1 → xs ≡ when a A → ys ≡ when b A → xs ++ ys ≡ when (a + b) A
own_both zero b xs ys A l e k = (λ i. e i ++ k i) ∙ (let z : b ≡ 0 + b = omega arith in ap (λ m. when m A) z)
own_both (suc a) zero xs ys A l e k = (λ i. e i ++ k i) ∙ (append-nil A ∙ sym (when_some (suc a + 0) A (omega arith)))
own_both (suc a) (suc b) xs ys A l e k = absurd (omega (arith, l))
