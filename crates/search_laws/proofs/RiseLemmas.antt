-- Lists in which each element stands in a relation to every later one.
use Rattle.std.proofs.Common.{◌≡◌, ℕ, zero, suc, ◌+◌, ◌<◌, ◌≤◌, true, Bool, List, [], ◌∷◌, ◌++◌, filter, flat_map, slice_get, Some, refl, subst, arith, inl, inr}
use Rattle.std.proofs.lemmas.Bool.{cases_Bool}
use Rattle.std.specs.List.{AllByRecursion}
use Rattle.std.specs.Prelude.{⊤}
use Rattle.hs_base.specs.Schedule.{numbers_from}
use Rattle.hs_base.specs.Walks.{EachAfter, IsInOrder}
use Rattle.base_laws.proofs.ListLemmas.{each_both, each_weaker, in_order}
use Rattle.search_tree.proofs.CellLemmas.{each_from_at}
use Rattle.search_tree.proofs.PlanOfNode.{each_filter}
use Rattle.search_tree.specs.Flaws.{flat_map_from}

abbrev pub Rises : {X : Type 0} → (X → X → Type 0) → List X → Type 0
Rises R [] = ⊤
Rises R (x ∷ xs) = AllByRecursion (R x) xs × Rises R xs

-- it is one claim with order from the front
rises_at : {X : Type 0} (R : X → X → Type 0) (xs : List X) → ((i j : ℕ) (a b : X) → slice_get xs i ≡ Some a → slice_get xs j ≡ Some b → i < j → R a b) → Rises R xs
rises_at R [] h = tt
rises_at R (x ∷ xs) h = (each_from_at (R x) xs (λ i y is. h 0 (suc i) x y refl is (omega arith)), rises_at R xs (λ i j a b is at less. h (suc i) (suc j) a b is at (omega arith)))

pub rises_from : {X : Type 0} (R : X → X → Type 0) (xs : List X) → IsInOrder R xs → Rises R xs
rises_from R xs h = rises_at R xs (λ i j a b is at less. in_order R xs i j a b h is at less)

-- each element with what holds of it, after those before it
pub after_from : {X : Type 0} (Q : X → Type 0) (R : X → X → Type 0) (before xs : List X) → AllByRecursion Q xs → Rises R xs → AllByRecursion (λ b. AllByRecursion (R b) xs) before → EachAfter (λ before x. Q x × AllByRecursion (λ b. R b x) before) before xs
after_from Q R before [] h r f = tt
after_from Q R before (x ∷ xs) h r f = (
  (h.0, each_weaker (λ b. AllByRecursion (R b) (x ∷ xs)) (λ b. R b x) (λ b k. k.0) before f),
  after_from Q R (before ++ x ∷ []) xs h.1 r.1 (each_both (λ b. AllByRecursion (R b) xs) before (x ∷ []) (each_weaker (λ b. AllByRecursion (R b) (x ∷ xs)) (λ b. AllByRecursion (R b) xs) (λ b k. k.1) before f) (r.0, tt)),
)

-- what follows of each after those before it
pub EachAfter-weaker : {X : Type 0} (P Q : List X → X → Type 0) → ((before : List X) (x : X) → P before x → Q before x) → (before xs : List X) → EachAfter P before xs → EachAfter Q before xs
EachAfter-weaker P Q f before [] h = tt
EachAfter-weaker P Q f before (x ∷ xs) h = (f before x h.0, EachAfter-weaker P Q f (before ++ x ∷ []) xs h.1)

pub rises_append : {X : Type 0} (R : X → X → Type 0) (xs ys : List X) → Rises R xs → Rises R ys → AllByRecursion (λ x. AllByRecursion (R x) ys) xs → Rises R (xs ++ ys)
rises_append R [] ys h g k = g
rises_append R (x ∷ xs) ys h g k = (each_both (R x) xs ys h.0 k.0, rises_append R xs ys h.1 g k.1)

pub rises_filter : {X : Type 0} (R : X → X → Type 0) (test : X → Bool) (xs : List X) → Rises R xs → Rises R (filter test xs)
rises_filter R test [] h = tt
rises_filter R test (x ∷ xs) h = elim (cases_Bool (test x)) [
  | inl t ↦ rw t (each_weaker (λ y. R x y × (test y ≡ true)) (R x) (λ y k. k.0) (filter test xs) (each_filter (R x) test xs h.0), rises_filter R test xs h.1)
  | inr t ↦ rw t (rises_filter R test xs h.1)
]

-- lists by their places, and by numbers: a greater key comes later
module _ {Y : Type 0} (R : Y → Y → Type 0) (P : Y → Type 0) (key : Y → ℕ) (less : (a b : Y) → P a → P b → key a < key b → R a b) where
  pub rises_by_place : {X : Type 0} (f : ℕ → X → List Y) (w : ℕ) (xs : List X) → ((i : ℕ) (x : X) → slice_get xs i ≡ Some x → Rises R (f (w + i) x) × AllByRecursion (λ y. P y × (key y ≡ w + i)) (f (w + i) x)) → Rises R (flat_map_from f w xs) × AllByRecursion (λ y. P y × (w ≤ key y)) (flat_map_from f w xs)
  rises_by_place f w [] h = (tt, tt)
  rises_by_place f w (x ∷ xs) h =
      let here : w + 0 ≡ w = omega arith in
      let one : Rises R (f w x) × AllByRecursion (λ y. P y × (key y ≡ w)) (f w x) = subst (λ n. Rises R (f n x) × AllByRecursion (λ y. P y × (key y ≡ n)) (f n x)) here (h 0 x refl) in
      let rest = rises_by_place f (suc w) xs (λ i y is. let there : w + suc i ≡ suc w + i = omega arith in subst (λ n. Rises R (f n y) × AllByRecursion (λ y. P y × (key y ≡ n)) (f n y)) there (h (suc i) y is)) in (
        rises_append R (f w x) (flat_map_from f (suc w) xs) one.0 rest.0 (each_weaker (λ y. P y × (key y ≡ w)) (λ y. AllByRecursion (R y) (flat_map_from f (suc w) xs)) (λ y k. each_weaker (λ z. P z × (suc w ≤ key z)) (R y) (λ z l. less y z k.0 l.0 (let a = k.1 in let c = l.1 in omega arith)) (flat_map_from f (suc w) xs) rest.1) (f w x) one.1),
        each_both (λ y. P y × (w ≤ key y)) (f w x) (flat_map_from f (suc w) xs) (each_weaker (λ y. P y × (key y ≡ w)) (λ y. P y × (w ≤ key y)) (λ y k. (k.0, let a = k.1 in omega arith)) (f w x) one.1) (each_weaker (λ y. P y × (suc w ≤ key y)) (λ y. P y × (w ≤ key y)) (λ y k. (k.0, let a = k.1 in omega arith)) (flat_map_from f (suc w) xs) rest.1),
      )

  pub rises_by_number : (f : ℕ → List Y) (w n : ℕ) → ((j : ℕ) → Rises R (f j) × AllByRecursion (λ y. P y × (key y ≡ j)) (f j)) → Rises R (flat_map f (numbers_from w n)) × AllByRecursion (λ y. P y × (w ≤ key y)) (flat_map f (numbers_from w n))
  rises_by_number f w zero h = (tt, tt)
  rises_by_number f w (suc n) h =
      let one = h w in
      let rest = rises_by_number f (w + 1) n h in (
        rises_append R (f w) (flat_map f (numbers_from (w + 1) n)) one.0 rest.0 (each_weaker (λ y. P y × (key y ≡ w)) (λ y. AllByRecursion (R y) (flat_map f (numbers_from (w + 1) n))) (λ y k. each_weaker (λ z. P z × (w + 1 ≤ key z)) (R y) (λ z l. less y z k.0 l.0 (let a = k.1 in let c = l.1 in omega arith)) (flat_map f (numbers_from (w + 1) n)) rest.1) (f w) one.1),
        each_both (λ y. P y × (w ≤ key y)) (f w) (flat_map f (numbers_from (w + 1) n)) (each_weaker (λ y. P y × (key y ≡ w)) (λ y. P y × (w ≤ key y)) (λ y k. (k.0, let a = k.1 in omega arith)) (f w) one.1) (each_weaker (λ y. P y × (w + 1 ≤ key y)) (λ y. P y × (w ≤ key y)) (λ y k. (k.0, let a = k.1 in omega arith)) (flat_map f (numbers_from (w + 1) n)) rest.1),
      )
