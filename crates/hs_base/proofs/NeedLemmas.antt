-- The place of an element among those that pass a test.
use Rattle.std.proofs.Common.{◌≡◌, ℕ, zero, suc, ◌<◌, Bool, true, List, [], ◌∷◌, length, take, get_or, Some, inl, inr, refl, subst, arith}
use Rattle.std.proofs.lemmas.Bool.{cases_Bool}
use Rattle.std.specs.Prelude.{filter, slice_get}

-- the element that passes with so many before it that do
pub filter_at : {X : Type 0} (p : X → Bool) (xs : List X) (i : ℕ) (x : X) → i < length xs → x ≡ get_or xs i x → p x ≡ true → slice_get (filter p xs) (length (filter p (take i xs))) ≡ Some x
filter_at p [] i x below is passes = absurd (omega arith)
filter_at p (y ∷ xs) zero x below is passes =
    let same : x ≡ y = is in
    subst (λ z. slice_get (filter p (z ∷ xs)) 0 ≡ Some x) same (rw passes refl)
filter_at p (y ∷ xs) (suc i) x below is passes = elim (cases_Bool (p y)) [
  | inl here ↦ rw here (filter_at p xs i x (omega arith) is passes)
  | inr fails ↦ rw fails (filter_at p xs i x (omega arith) is passes)
]
