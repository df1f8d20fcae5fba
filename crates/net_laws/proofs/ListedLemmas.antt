-- Agreement with a list of times is agreement with its times at each point.
use Rattle.std.proofs.Common.{◌≡◌, ℕ, List, [], ◌∷◌, refl, sym, ap, ◌∙◌, subst, inl, inr, Some}
use Rattle.std.proofs.lemmas.Bool.{cases_Bool, eqb-true, eq-eqb}
use Rattle.std.specs.Prelude.{ℤ, nat_eq}
use Rattle.std.specs.List.{AllByRecursion}
use Rattle.hs_base.specs.declared.plan.Time.{Time}
use Rattle.hs_base.specs.Schedule.{Schedule}
use Rattle.hs_base.specs.Fits.{time_at, EachOnce}

pub agrees_at : (ts : List Time) (s : Schedule) → AllByRecursion (λ (t : Time). s t.point.0 ≡ t.at) ts → (x : ℕ) (t : ℤ) → time_at ts x ≡ Some t → s x ≡ t
agrees_at [] s h x t e = absurd (cc)
agrees_at (u ∷ ts) s h x t e = elim (cases_Bool (nat_eq u.point.0 x)) [
  | inl same ↦
      let g : Some u.at ≡ Some t = rw same at e in
      let w : u.at ≡ t = cc in
      ap s (sym (eqb-true _ _ same)) ∙ h.0 ∙ w
  | inr other ↦ agrees_at ts s h.1 x t (rw other at e)
]

pub agrees_by : (ts : List Time) (s : Schedule) → EachOnce ts → ((x : ℕ) (t : ℤ) → time_at ts x ≡ Some t → s x ≡ t) → AllByRecursion (λ (t : Time). s t.point.0 ≡ t.at) ts
agrees_by [] s once h = tt
agrees_by (u ∷ ts) s once h = (
  h u.point.0 u.at (rw (eq-eqb u.point.0 u.point.0 refl) refl),
  agrees_by ts s once.1 (λ x t e. h x t (elim (cases_Bool (nat_eq u.point.0 x)) [
    | inl same ↦ absurd (let g : time_at ts u.point.0 ≡ Some t = subst (λ z. time_at ts z ≡ Some t) (sym (eqb-true _ _ same)) e in let f = once.0 in cc)
    | inr other ↦ rw other e
  ])),
)
