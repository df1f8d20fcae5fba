-- What holds of each seat after one is changed or added.
use Rattle.std.proofs.Common.{◌≡◌, ◌≢◌, ◌⊎◌, ℕ, zero, suc, List, [], ◌∷◌, ◌++◌, set, true, false, true≢false, refl, sym, ap, ◌∙◌, subst, ⊎_elim, inl, inr}
use mathlib.Core.Option.{some, some-ne-none, some-injective}
use lib.ListN.{get_elem?}
use Rattle.atomic_table.proofs.Lists.{at_set, at_snoc, set_else}
use Rattle.exec_lock.specs.declared.view.SeatView.{SeatView}

-- a seat that holds and doesn't hold
pub no_turn : {A : Type 0} → false ≡ true → A
no_turn e = absurd (true≢false (sym e))

-- what holds of the only seat
pub first_only : (P : SeatView → Type 0) (w : SeatView) → P w → (j : ℕ) (v : SeatView) → get_elem? (w ∷ []) j ≡ some v → P v
first_only P w p zero v e = subst P (some-injective _ _ e) p
first_only P w p (suc j) v e = absurd (some-ne-none v (sym e))

-- what holds of a changed seat and of each other one
pub each_set : (P : ℕ → SeatView → Type 0) (seats : List SeatView) (i : ℕ) (w : SeatView) → P i w → ((j : ℕ) (u : SeatView) → j ≢ i → get_elem? seats j ≡ some u → P j u) → (j : ℕ) (u : SeatView) → get_elem? (set seats i w) j ≡ some u → P j u
each_set P seats i w mine others j u e =
    ⊎_elim
    (λ (x : (j ≡ i) × (w ≡ u)). subst (λ (y : ℕ × SeatView). P y.0 y.1) (λ k. (sym x.0 k, x.1 k)) mine)
    (λ (x : (j ≢ i) × (get_elem? seats j ≡ some u)). others j u x.0 x.1)
    (at_set seats i j w u e)

-- what holds of a new seat and of each old one
pub each_push : (P : ℕ → SeatView → Type 0) (seats : List SeatView) (w : SeatView) → ((j : ℕ) (u : SeatView) → get_elem? seats j ≡ some u → P j u) → ((j : ℕ) → P j w) → (j : ℕ) (u : SeatView) → get_elem? (seats ++ w ∷ []) j ≡ some u → P j u
each_push P seats w old new j u e = ⊎_elim (λ was. old j u was) (λ (same : w ≡ u). subst (P j) same (new j)) (at_snoc seats w u j e)

-- a changed seat stands at its place
pub set_at : (seats : List SeatView) (i : ℕ) (a b : SeatView) → get_elem? seats i ≡ some a → get_elem? (set seats i b) i ≡ some b
set_at [] i a b e = absurd (some-ne-none a (sym e))
set_at (x ∷ xs) zero a b e = refl
set_at (x ∷ xs) (suc i) a b e = set_at xs i a b e

-- where an idle seat is changed, the one that has the turn stays
pub turn_stays : (seats : List SeatView) (i : ℕ) (v w : SeatView) → get_elem? seats i ≡ some v → v.holds ≡ false → (j : ℕ) (u : SeatView) → u.holds ≡ true → get_elem? seats j ≡ some u → get_elem? (set seats i w) j ≡ some u
turn_stays seats i v w at idle j u h e = set_else seats i j w (λ same. let eq : v ≡ u = some-injective _ _ (sym at ∙ (ap (get_elem? seats) (sym same) ∙ e)) in no_turn (sym idle ∙ (ap (λ z. z.holds) eq ∙ h))) ∙ e

-- where a seat becomes idle, each other one stood there before
pub stood_before : (seats : List SeatView) (i : ℕ) (w : SeatView) → w.holds ≡ false → (j : ℕ) (u : SeatView) → get_elem? (set seats i w) j ≡ some u → (u.holds ≡ false) ⊎ (get_elem? seats j ≡ some u)
stood_before seats i w idle = each_set (λ j u. (u.holds ≡ false) ⊎ (get_elem? seats j ≡ some u)) seats i w (inl idle) (λ j u _ e. inr e)
