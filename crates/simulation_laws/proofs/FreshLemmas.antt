-- A checked extension that was planned from what is executed by now has a schedule that fits.
use Rattle.std.proofs.Common.{◌≡◌, ℕ, zero, suc, ◌+◌, ◌-◌, ◌<◌, Bool, true, false, cond, nat_eq, ◌||◌, List, [], ◌∷◌, ◌++◌, Option, Some, None, refl, sym, ap, ◌∙◌, subst, arith, inl, inr, pos}
use Rattle.std.proofs.lemmas.Int.{ints}
use Rattle.std.proofs.lemmas.Bool.{cases_Bool, eqb-true}
use Rattle.std.specs.Prelude.{ℤ, ◌≤ℤ◌, neg_ℤ, slice_get, flat_map}
use Rattle.std.specs.List.{AllByRecursion, list_any}
use Rattle.hs_base.specs.declared.plan.Time.{Time}
use Rattle.hs_base.specs.declared.plan.Extension.{Extension}
use Rattle.hs_base.specs.declared.mission.Mission.{Mission}
use Rattle.hs_machine.specs.declared.history.Entry.{Entry}
use Rattle.hs_base.specs.Walks.{EachAfter}
use Rattle.hs_base.specs.Ranges.{range}
use Rattle.hs_base.specs.Schedule.{Schedule, Meets, Holds, bound, numbers_from}
use Rattle.hs_base.specs.Points.{count}
use Rattle.hs_base.specs.Bounds.{exactly, is_fixed, on_some, new_bounds, bounds_of, fixed_bounds, since_bounds, IsScheduleOf}
use Rattle.hs_base.specs.Checked.{Checked, KeepsRules, KeepsFixedAt}
use Rattle.hs_base.proofs.RuleLemmas.{fixed_kept}
use Rattle.hs_machine.specs.State.{plan_of, count_at, executed, tick_at}
use Rattle.hs_machine.specs.Views.{newly_executed, time_if}
use Rattle.hs_machine.specs.Machine.{FitsOffer}
use Rattle.hs_machine.specs.Run.{Run}
use Rattle.base_laws.proofs.ListLemmas.{EachAfter-push, front_induction, join_after-push, each_split, each_flat, each_both, each_weaker}
use Rattle.base_laws.proofs.PointLemmas.{count-push}
use Rattle.plan_laws.proofs.ScheduleLemmas.{left, right}
use Rattle.plan_laws.proofs.LengthLemmas.{in_range, number_at}
use Rattle.run_laws.proofs.RunLemmas.{run_fits, HasFit}
use Rattle.plan_laws.proofs.PlanLemmas.{restricts}

-- a schedule of a list's times
abbrev pub KeepsTimes : Schedule → List Time → Type 0
KeepsTimes s ts = AllByRecursion (λ (t : Time). s t.point.0 ≡ t.at) ts

times_kept : (s : Schedule) (ts : List Time) → s 0 ≡ pos 0 → AllByRecursion (Holds s) (fixed_bounds ts) → KeepsTimes s ts
times_kept s [] origin h = tt
times_kept s (t ∷ ts) origin h =
    let parts = each_split (Holds s) (exactly t.point.0 t.at) (fixed_bounds ts) h in
    let r = in_range s t.point.0 0 (range t.at t.at) parts.0 in
    (omega (arith, ints, r.0, r.1, origin), times_kept s ts origin parts.1)

-- one of the times is that of x
is_listed : List Time → ℕ → Bool
is_listed ts x = list_any (λ (t : Time). nat_eq t.point.0 x) ts

-- two schedules of the times agree on a listed point
listed_alike : (s t : Schedule) (ts : List Time) (x : ℕ) → KeepsTimes s ts → KeepsTimes t ts → list_any (λ (u : Time). nat_eq u.point.0 x) ts ≡ true → s x ≡ t x
listed_alike s t [] x a b is = absurd (cc)
listed_alike s t (u ∷ ts) x a b is = elim (cases_Bool (nat_eq u.point.0 x)) [
  | inl same ↦ let e : u.point.0 ≡ x = eqb-true u.point.0 x same in ap s (sym e) ∙ a.0 ∙ sym b.0 ∙ ap t e
  | inr other ↦ listed_alike s t ts x a.1 b.1 (rw other at is)
]

any-append : {X : Type 0} (p : X → Bool) (xs ys : List X) → list_any p (xs ++ ys) ≡ cond (list_any p xs) true (list_any p ys)
any-append p [] ys = refl
any-append p (x ∷ xs) ys = elim (cases_Bool (p x)) [ inl yes_ ↦ rw yes_ refl | inr no_ ↦ rw no_ (any-append p xs ys) ]

-- what is fixed with one more extension was fixed before, or by that one
pub fixed_push : (es : List Extension) (e : Extension) (x : ℕ) → is_fixed (es ++ e ∷ []) x ≡ cond (is_fixed es x) true (list_any (λ (t : Time). nat_eq t.point.0 x) e.fixed)
fixed_push es e x =
    any-append (λ (d : Extension). list_any (λ (t : Time). nat_eq t.point.0 x) d.fixed) es (e ∷ [])
    ∙ ap (cond (is_fixed es x) true) (last (list_any (λ (t : Time). nat_eq t.point.0 x) e.fixed))
  where
    last : (b : Bool) → (b || false) ≡ b
    last true = refl
    last false = refl

fixed_part : (m : Mission) (s : Schedule) (before : List Extension) (e : Extension) → Meets (new_bounds m before e) s → Meets (fixed_bounds e.fixed) s
fixed_part m s before e h = right _ _ (left _ _ h)

since_part : (m : Mission) (s : Schedule) (before : List Extension) (e : Extension) → Meets (new_bounds m before e) s → Meets (since_bounds (before ++ e ∷ []) e.since) s
since_part m s before e h = right _ _ h

last_part : (m : Mission) (s : Schedule) (before : List Extension) (e : Extension) → IsScheduleOf m (before ++ e ∷ []) s → Meets (new_bounds m before e) s
last_part m s before e h = record { origin = h.origin; each = (each_split (Holds s) (bounds_of m before) (new_bounds m before e) (rw (join_after-push (new_bounds m) [] before e) at h.each)).1 }

-- all schedules of a plan give a fixed point one time
pub fixed_alike : (m : Mission) (es : List Extension) (s t : Schedule) (x : ℕ) → IsScheduleOf m es s → IsScheduleOf m es t → is_fixed es x ≡ true → s x ≡ t x
fixed_alike m es s t x = front_induction (λ es. IsScheduleOf m es s → IsScheduleOf m es t → is_fixed es x ≡ true → s x ≡ t x) (λ a b is. absurd (cc)) step es
  where
    step : (before : List Extension) (e : Extension) → (IsScheduleOf m before s → IsScheduleOf m before t → is_fixed before x ≡ true → s x ≡ t x) → IsScheduleOf m (before ++ e ∷ []) s → IsScheduleOf m (before ++ e ∷ []) t → is_fixed (before ++ e ∷ []) x ≡ true → s x ≡ t x
    step before e old a b is = elim (cases_Bool (is_fixed before x)) [
      | inl early ↦ old (restricts m before e s a) (restricts m before e t b) early
      | inr new ↦
          let here : list_any (λ (u : Time). nat_eq u.point.0 x) e.fixed ≡ true = ap (λ c. cond c true (list_any (λ (u : Time). nat_eq u.point.0 x) e.fixed)) (sym new) ∙ sym (fixed_push before e x) ∙ is in
          listed_alike s t e.fixed x
          (times_kept s e.fixed a.origin (fixed_part m s before e (last_part m s before e a)).each)
          (times_kept t e.fixed b.origin (fixed_part m t before e (last_part m t before e b)).each) here
    ]

-- a point that a plan fixes is one of its points
listed_below : (c : ℕ) (ts : List Time) (x : ℕ) → AllByRecursion (λ (t : Time). t.point.0 < c) ts → list_any (λ (t : Time). nat_eq t.point.0 x) ts ≡ true → x < c
listed_below c [] x h is = absurd (cc)
listed_below c (t ∷ ts) x h is = elim (cases_Bool (nat_eq t.point.0 x)) [
  | inl same ↦ omega (arith, eqb-true t.point.0 x same, h.0)
  | inr other ↦ listed_below c ts x h.1 (rw other at is)
]

each_fixed : (es : List Extension) (e : Extension) (front ts : List Time) → EachAfter (KeepsFixedAt es e) front ts → AllByRecursion (λ (t : Time). t.point.0 < count es) ts
each_fixed es e front [] h = tt
each_fixed es e front (t ∷ ts) h = (h.0.below, each_fixed es e (front ++ t ∷ []) ts h.1)

pub fixed_below : (m : Mission) (es : List Extension) (x : ℕ) → EachAfter (KeepsRules m) [] es → is_fixed es x ≡ true → x < count es
fixed_below m es x = front_induction (λ es. EachAfter (KeepsRules m) [] es → is_fixed es x ≡ true → x < count es) (λ r is. absurd (cc)) step es
  where
    step : (before : List Extension) (e : Extension) → (EachAfter (KeepsRules m) [] before → is_fixed before x ≡ true → x < count before) → EachAfter (KeepsRules m) [] (before ++ e ∷ []) → is_fixed (before ++ e ∷ []) x ≡ true → x < count (before ++ e ∷ [])
    step before e old r is =
        let parts = EachAfter-push (KeepsRules m) [] before e r in
        elim (cases_Bool (is_fixed before x)) [
          | inl early ↦ let b = old parts.0 early in omega (arith, b, count-push before e)
          | inr new ↦
              let here : list_any (λ (u : Time). nat_eq u.point.0 x) e.fixed ≡ true = ap (λ c. cond c true (list_any (λ (u : Time). nat_eq u.point.0 x) e.fixed)) (sym new) ∙ sym (fixed_push before e x) ∙ is in
              let b = listed_below (count before) e.fixed x (each_fixed before e [] e.fixed (fixed_kept parts.1).each) here in
              omega (arith, b, count-push before e)
        ]

-- a point that isn't fixed stands at `since` or later
pub after_since : (m : Mission) (before : List Extension) (e : Extension) (s : Schedule) (x : ℕ) → IsScheduleOf m (before ++ e ∷ []) s → 0 < x → x < count (before ++ e ∷ []) → is_fixed (before ++ e ∷ []) x ≡ false → e.since ≤ℤ s x
after_since m before e s x h some below free =
    let es = before ++ e ∷ [] in
    let is : 1 + (x - 1) ≡ x = omega arith in
    let at : slice_get (numbers_from 1 (count es - 1)) (x - 1) ≡ Some x = number_at 1 (count es - 1) (x - 1) (omega arith) ∙ ap Some is in
    let bounds = each_flat (Holds s) (λ y. cond (is_fixed es y) [] (bound y 0 (neg_ℤ e.since) ∷ [])) (numbers_from 1 (count es - 1)) (x - 1) x (since_part m s before e (last_part m s before e h)).each at in
    let one : AllByRecursion (Holds s) (bound x 0 (neg_ℤ e.since) ∷ []) = subst (λ b. AllByRecursion (Holds s) (cond b [] (bound x 0 (neg_ℤ e.since) ∷ []))) free bounds in
    omega (arith, ints, one.0, h.origin)

-- what holds of all that each gives, back
flat_each : {X Y : Type 0} (P : Y → Type 0) (f : X → List Y) (xs : List X) → ((x : X) → AllByRecursion P (f x)) → AllByRecursion P (flat_map f xs)
flat_each P f [] h = tt
flat_each P f (x ∷ xs) h = each_both P (f x) (flat_map f xs) (h x) (flat_each P f xs h)

-- the newly executed points are executed, at these times
pub newly_are : (h : List Entry) → AllByRecursion (λ (t : Time). executed h t.point.0 ≡ Some t.at) (newly_executed h)
newly_are h = flat_each (λ (t : Time). executed h t.point.0 ≡ Some t.at) (λ x. cond (is_fixed (plan_of h) x) [] (time_if (executed h) x)) (numbers_from 1 (count_at h - 1)) each
  where
    once : (x : ℕ) (o : Option ℤ) → executed h x ≡ o → AllByRecursion (λ (t : Time). executed h t.point.0 ≡ Some t.at) (on_some o (λ t. record { point = record { 0 = x }; at = t } ∷ []))
    once x None is = tt
    once x (Some t) is = (is, tt)

    each : (x : ℕ) → AllByRecursion (λ (t : Time). executed h t.point.0 ≡ Some t.at) (cond (is_fixed (plan_of h) x) [] (time_if (executed h) x))
    each x = elim (cases_Bool (is_fixed (plan_of h) x)) [ inl set ↦ rw set tt | inr free ↦ rw free (once x (executed h x) refl) ]

listed_is : (P : ℕ → Type 0) (ts : List Time) (x : ℕ) → AllByRecursion (λ (t : Time). P t.point.0) ts → list_any (λ (t : Time). nat_eq t.point.0 x) ts ≡ true → P x
listed_is P [] x h is = absurd (cc)
listed_is P (t ∷ ts) x h is = elim (cases_Bool (nat_eq t.point.0 x)) [
  | inl same ↦ subst P (eqb-true t.point.0 x same) h.0
  | inr other ↦ listed_is P ts x h.1 (rw other at is)
]

module _ (m : Mission) (h : List Entry) (e : Extension) (run : Run m h) (within : (x : ℕ) (t : ℤ) → executed h x ≡ Some t → x < count_at h) (since : e.since ≡ tick_at h) (fixed : e.fixed ≡ newly_executed h) (k : Checked m (plan_of h ++ e ∷ [])) where
  abbrev es : List Extension
  es = plan_of h ++ e ∷ []

  -- a schedule that fits the plan before, where that isn't empty
  fit_before : (x : ℕ) → is_fixed (plan_of h) x ≡ true → HasFit m h
  fit_before x is = run_fits m h run (λ (none : plan_of h ≡ []). let f : false ≡ true = sym (ap (λ (l : List Extension). is_fixed l x) none) ∙ is in cc)

  old_alike : (x : ℕ) (is : is_fixed (plan_of h) x ≡ true) → k.schedule x ≡ (fit_before x is).s x
  old_alike x is = fixed_alike m (plan_of h) k.schedule (fit_before x is).s x (restricts m (plan_of h) e k.schedule k.meets) (fit_before x is).fits.meets is

  -- the points that are newly executed have their times
  newly : (x : ℕ) (t : ℤ) → 0 < x → executed h x ≡ Some t → is_fixed (plan_of h) x ≡ false → k.schedule x ≡ t
  newly x t some is free =
      let below = within x t is in
      let kept : KeepsTimes k.schedule (newly_executed h) = subst (KeepsTimes k.schedule) fixed (times_kept k.schedule e.fixed k.meets.origin (fixed_part m k.schedule (plan_of h) e (last_part m k.schedule (plan_of h) e k.meets)).each) in
      let j : 1 + (x - 1) ≡ x = omega arith in
      let at : slice_get (numbers_from 1 (count_at h - 1)) (x - 1) ≡ Some x = number_at 1 (count_at h - 1) (x - 1) (omega arith) ∙ ap Some j in
      let here = each_flat (λ (u : Time). k.schedule u.point.0 ≡ u.at) (λ y. cond (is_fixed (plan_of h) y) [] (time_if (executed h) y)) (numbers_from 1 (count_at h - 1)) (x - 1) x kept at in
      let one : KeepsTimes k.schedule (on_some (Some t) (λ u. record { point = record { 0 = x }; at = u } ∷ [])) = subst (λ o. KeepsTimes k.schedule (on_some o (λ u. record { point = record { 0 = x }; at = u } ∷ []))) is (subst (λ b. KeepsTimes k.schedule (cond b [] (time_if (executed h) x))) free here) in
      one.0

  past : (x : ℕ) (t : ℤ) → executed h x ≡ Some t → k.schedule x ≡ t
  past zero t is = k.meets.origin ∙ (let e : Some (pos 0) ≡ Some t = is in let v : pos 0 ≡ t = cc in v)
  past (suc x) t is = elim (cases_Bool (is_fixed (plan_of h) (suc x))) [
    | inl set ↦ old_alike (suc x) set ∙ (fit_before (suc x) set).fits.past (suc x) t is
    | inr free ↦ newly (suc x) t (omega arith) is free
  ]

  future : (x : ℕ) → x < count es → executed h x ≡ None → tick_at h ≤ℤ k.schedule x
  future zero below none = absurd (let e : Some (pos 0) ≡ None = none in cc)
  future (suc x) below none = elim (cases_Bool (is_fixed es (suc x))) [
    | inr free ↦ omega (arith, ints, after_since m (plan_of h) e k.schedule (suc x) k.meets (omega arith) below free, since)
    | inl set ↦ elim (cases_Bool (is_fixed (plan_of h) (suc x))) [
      | inl early ↦
          let f = fit_before (suc x) early in
          let rules = (EachAfter-push (KeepsRules m) [] (plan_of h) e k.rules).0 in
          let late = f.fits.future (suc x) (fixed_below m (plan_of h) (suc x) rules early) none in
          omega (arith, ints, late, old_alike (suc x) early)
      | inr new ↦
          let here : list_any (λ (u : Time). nat_eq u.point.0 (suc x)) e.fixed ≡ true = ap (λ c. cond c true (list_any (λ (u : Time). nat_eq u.point.0 (suc x)) e.fixed)) (sym new) ∙ sym (fixed_push (plan_of h) e (suc x)) ∙ set in
          let there : list_any (λ (u : Time). nat_eq u.point.0 (suc x)) (newly_executed h) ≡ true = ap (list_any (λ (u : Time). nat_eq u.point.0 (suc x))) (sym fixed) ∙ here in
          let is = listed_is (λ y. (t : ℤ) × (executed h y ≡ Some t)) (newly_executed h) (suc x) (each_weaker (λ (t : Time). executed h t.point.0 ≡ Some t.at) (λ (t : Time). (u : ℤ) × (executed h t.point.0 ≡ Some u)) (λ t i. (t.at, i)) (newly_executed h) (newly_are h)) there in
          absurd (let f : None ≡ Some is.0 = sym none ∙ is.1 in cc)
    ]
  ]

  -- so the plan with the extension is never stale
  pub planned_now_fits : (s : Schedule) × FitsOffer m h es s
  planned_now_fits = (k.schedule, record { meets = k.meets; past = past; future = future })
