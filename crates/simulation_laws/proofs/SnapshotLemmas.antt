-- A search may begin from what a running state shows.
use Rattle.std.proofs.Common.{◌≡◌, ℕ, zero, suc, ◌+◌, ◌-◌, ◌<◌, Bool, true, false, cond, nat_eq, ◌||◌, List, [], ◌∷◌, ◌++◌, Option, Some, None, refl, sym, ap, ◌∙◌, subst, arith, inl, inr, pos, append-nil, append_assoc}
use Rattle.std.proofs.lemmas.Int.{ints}
use Rattle.std.proofs.lemmas.Bool.{cases_Bool, eq-eqb}
use Rattle.std.proofs.lemmas.List.Folds.{list_any-append}
use Rattle.std.specs.Prelude.{ℤ, ◌≤ℤ◌, slice_get, flat_map}
use Rattle.std.specs.List.{AllByRecursion, list_any}
use Rattle.hs_base.specs.declared.limits.TheConstants.{LAST}
use Rattle.hs_base.specs.declared.plan.Time.{Time}
use Rattle.hs_base.specs.declared.plan.Extension.{Extension}
use Rattle.hs_base.specs.declared.mission.Mission.{Mission}
use Rattle.hs_machine.specs.declared.history.Entry.{Entry}
use Rattle.hs_base.specs.Walks.{EachAfter}
use Rattle.hs_base.specs.Schedule.{Schedule, numbers_from}
use Rattle.hs_base.specs.Bounds.{is_fixed, on_some}
use Rattle.hs_base.specs.Checked.{KeepsFixedAt, KeepsFixed}
use Rattle.hs_machine.specs.State.{plan_of, count_at, executed, tick_at, FitsState}
use Rattle.hs_machine.specs.Views.{newly_executed, time_if}
use Rattle.base_laws.proofs.ListLemmas.{each_weaker, each_both}
use Rattle.plan_laws.proofs.LengthLemmas.{number_at}
use Rattle.simulation_laws.proofs.FreshLemmas.{newly_are, fixed_push}

-- what holds of each after those before it, of a list that is joined from two
each_after_join : {X : Type 0} (P : List X → X → Type 0) (before xs ys : List X) → EachAfter P before xs → EachAfter P (before ++ xs) ys → EachAfter P before (xs ++ ys)
each_after_join P before [] ys a b = subst (λ l. EachAfter P l ys) (append-nil before) b
each_after_join P before (x ∷ xs) ys a b = (a.0, each_after_join P (before ++ x ∷ []) xs ys a.1 (subst (λ l. EachAfter P l ys) (sym (append_assoc before (x ∷ []) xs)) b))

-- an element whose list has one that passes
any_flat : {X Y : Type 0} (p : Y → Bool) (f : X → List Y) (xs : List X) (j : ℕ) (x : X) → slice_get xs j ≡ Some x → list_any p (f x) ≡ true → list_any p (flat_map f xs) ≡ true
any_flat p f [] j x is passes = absurd (cc)
any_flat p f (y ∷ xs) zero x is passes = let same : y ≡ x = cc in list_any-append p (f y) (flat_map f xs) ∙ ap (λ b. b || list_any p (flat_map f xs)) (ap (λ z. list_any p (f z)) same ∙ passes)
any_flat p f (y ∷ xs) (suc j) x is passes = list_any-append p (f y) (flat_map f xs) ∙ ap (λ b. list_any p (f y) || b) (any_flat p f xs j x is passes) ∙ or_true (list_any p (f y))
  where
    or_true : (b : Bool) → (b || true) ≡ true
    or_true true = refl
    or_true false = refl

module _ (h : List Entry) (e : Extension) (within : (x : ℕ) (t : ℤ) → executed h x ≡ Some t → x < count_at h) (early : (x : ℕ) (t : ℤ) → executed h x ≡ Some t → t ≤ℤ tick_at h) (low : (x : ℕ) (t : ℤ) → executed h x ≡ Some t → pos 0 ≤ℤ t) (since : e.since ≡ tick_at h) (last : tick_at h ≤ℤ LAST) where
  abbrev newly : ℕ → List Time
  newly x = cond (is_fixed (plan_of h) x) [] (time_if (executed h) x)

  -- the times of points from a on rise, where those before are points below a
  walk : (a n : ℕ) (before : List Time) → 0 < a → AllByRecursion (λ (b : Time). b.point.0 < a) before → EachAfter (KeepsFixedAt (plan_of h) e) before (flat_map newly (numbers_from a n))
  walk a zero before some below = tt
  walk a (suc n) before some below =
      each_after_join (KeepsFixedAt (plan_of h) e) before (newly a) (flat_map newly (numbers_from (a + 1) n)) here
      (walk (a + 1) n (before ++ newly a) (omega arith) (each_both (λ (b : Time). b.point.0 < a + 1) before (newly a) (each_weaker (λ (b : Time). b.point.0 < a) (λ (b : Time). b.point.0 < a + 1) (λ b l. omega (arith, l)) before below) own))
    where
      by_time : (o : Option ℤ) → executed h a ≡ o → is_fixed (plan_of h) a ≡ false → EachAfter (KeepsFixedAt (plan_of h) e) before (on_some o (λ t. record { point = record { 0 = a }; at = t } ∷ []))
      by_time None is free = tt
      by_time (Some t) is free = (
        record {
          not_origin = some;
          below = within a t is;
          new = free;
          rising = below;
          at = (low a t is, omega (arith, ints, early a t is, since));
        },
        tt,
      )

      here : EachAfter (KeepsFixedAt (plan_of h) e) before (newly a)
      here = elim (cases_Bool (is_fixed (plan_of h) a)) [ inl set ↦ rw set tt | inr free ↦ rw free (by_time (executed h a) refl free) ]

      own_time : (o : Option ℤ) → AllByRecursion (λ (b : Time). b.point.0 < a + 1) (on_some o (λ t. record { point = record { 0 = a }; at = t } ∷ []))
      own_time None = tt
      own_time (Some t) = (omega arith, tt)

      own : AllByRecursion (λ (b : Time). b.point.0 < a + 1) (newly a)
      own = elim (cases_Bool (is_fixed (plan_of h) a)) [ inl set ↦ rw set tt | inr free ↦ rw free (own_time (executed h a)) ]

  -- rule 4 of the newly executed points
  pub snapshot_keeps_fixed : e.fixed ≡ newly_executed h → KeepsFixed (plan_of h) e
  snapshot_keeps_fixed fixed = record {
    each = subst (EachAfter (KeepsFixedAt (plan_of h) e) []) (sym fixed) (walk 1 (count_at h - 1) [] (omega arith) tt);
    since = (omega (arith, ints, since), omega (arith, ints, since, last));
  }

  -- a schedule that fits the state agrees with them, and gives every other point now or later
  module _ (m : Mission) (s : Schedule) (fits : FitsState m h s) (fixed : e.fixed ≡ newly_executed h) where
    pub snapshot_agrees : AllByRecursion (λ (f : Time). s f.point.0 ≡ f.at) (newly_executed h)
    snapshot_agrees = each_weaker (λ (t : Time). executed h t.point.0 ≡ Some t.at) (λ (f : Time). s f.point.0 ≡ f.at) (λ t is. fits.past t.point.0 t.at is) (newly_executed h) (newly_are h)

    pub snapshot_later : (x : ℕ) → 0 < x → x < count_at h → is_fixed (plan_of h ++ e ∷ []) x ≡ false → tick_at h ≤ℤ s x
    snapshot_later x some below free = by_time (executed h x) refl
      where
        not_fixed : is_fixed (plan_of h) x ≡ false
        not_fixed = elim (cases_Bool (is_fixed (plan_of h) x)) [
          | inl set ↦ absurd (let f : true ≡ false = sym (fixed_push (plan_of h) e x ∙ ap (λ b. cond b true (list_any (λ (t : Time). nat_eq t.point.0 x) e.fixed)) set) ∙ free in cc)
          | inr no_ ↦ no_
        ]

        unlisted : list_any (λ (t : Time). nat_eq t.point.0 x) (newly_executed h) ≡ false
        unlisted = ap (list_any (λ (t : Time). nat_eq t.point.0 x)) (sym fixed) ∙ sym (fixed_push (plan_of h) e x ∙ ap (λ b. cond b true (list_any (λ (t : Time). nat_eq t.point.0 x) e.fixed)) not_fixed) ∙ free

        by_time : (o : Option ℤ) → executed h x ≡ o → tick_at h ≤ℤ s x
        by_time None is = fits.future x below is
        by_time (Some t) is =
            let at : slice_get (numbers_from 1 (count_at h - 1)) (x - 1) ≡ Some x = number_at 1 (count_at h - 1) (x - 1) (omega arith) ∙ (let j : 1 + (x - 1) ≡ x = omega arith in ap Some j) in
            let own : newly x ≡ record { point = record { 0 = x }; at = t } ∷ [] = ap (λ b. cond b [] (time_if (executed h) x)) not_fixed ∙ ap (λ o. on_some o (λ u. record { point = record { 0 = x }; at = u } ∷ [])) is in
            let here : list_any (λ (u : Time). nat_eq u.point.0 x) (newly x) ≡ true = ap (list_any (λ (u : Time). nat_eq u.point.0 x)) own ∙ rw (eq-eqb x x refl) refl in
            absurd (let f : true ≡ false = sym (any_flat (λ (u : Time). nat_eq u.point.0 x) newly (numbers_from 1 (count_at h - 1)) (x - 1) x at here) ∙ unlisted in cc)
