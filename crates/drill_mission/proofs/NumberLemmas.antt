-- Lists that are made by number.
use Rattle.std.proofs.Common.{◌≡◌, ℕ, zero, suc, ◌+◌, ◌<◌, ◌≤◌, List, [], ◌∷◌, ◌++◌, map, Some, refl, ap, ◌∙◌, subst, arith, append_assoc}
use Rattle.std.specs.Prelude.{slice_get}
use Rattle.std.specs.List.{AllByRecursion, range_with_len}
use Rattle.std.proofs.lemmas.List.FromFn.{map-range_with_len_more}
use Rattle.hs_base.specs.Walks.{EachAfter, IsInOrder}

-- the item of a number
pub at_number : {X : Type 0} (f : ℕ → X) (a n i : ℕ) → i < n → slice_get (map f (range_with_len a n)) i ≡ Some (f (a + i))
at_number f a zero i h = absurd (omega arith)
at_number f a (suc n) zero h = let e : a ≡ a + 0 = omega arith in ap (λ k. Some (f k)) e
at_number f a (suc n) (suc i) h =
    let e : a + 1 + i ≡ a + suc i = omega arith in
    at_number f (a + 1) n i (omega arith) ∙ ap (λ k. Some (f k)) e

-- what holds of each number's item holds of all
pub each_number : {X : Type 0} (P : X → Type 0) (f : ℕ → X) (a n : ℕ) → ((k : ℕ) → a ≤ k → k < a + n → P (f k)) → AllByRecursion P (map f (range_with_len a n))
each_number P f a zero h = tt
each_number P f a (suc n) h =
    (h a (omega arith) (omega arith), each_number P f (a + 1) n (λ k l u. h k (omega arith) (omega arith)))

-- what holds of each item and that of each greater number, with those before number a
pub order_from : {X : Type 0} (R : X → X → Type 0) (f : ℕ → X) → ((i j : ℕ) → i < j → R (f i) (f j)) → (a n : ℕ)
    → EachAfter (λ before x. AllByRecursion (λ b. R b x) before) (map f (range_with_len 0 a)) (map f (range_with_len a n))
order_from R f h a zero = tt
order_from {X} R f h a (suc n) =
    let more : map f (range_with_len 0 (a + 1)) ≡ map f (range_with_len 0 a) ++ f a ∷ [] = map-range_with_len_more f 0 a a (omega arith) in (
      each_number (λ b. R b (f a)) f 0 a (λ k l u. h k a (omega arith)),
      subst (λ (b : List X). EachAfter (λ before x. AllByRecursion (λ y. R y x) before) b (map f (range_with_len (a + 1) n))) more (order_from R f h (a + 1) n),
    )

-- the items stand in order
pub in_order : {X : Type 0} (R : X → X → Type 0) (f : ℕ → X) → ((i j : ℕ) → i < j → R (f i) (f j)) → (n : ℕ) → IsInOrder R (map f (range_with_len 0 n))
in_order R f h n = order_from R f h 0 n

-- one more item
pub push_number : {X : Type 0} (f : ℕ → X) (a n j : ℕ) (first made new : List X) (x : X) → a + n ≡ j → made ≡ first ++ map f (range_with_len a n) → x ≡ f j → new ≡ made ++ x ∷ []
    → new ≡ first ++ map f (range_with_len a (n + 1))
push_number f a n j first made new x e before is pushed =
    rw (pushed, before, is, map-range_with_len_more f a n j e, append_assoc) refl
