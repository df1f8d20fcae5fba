-- The bound that a failed run names is between two points of its plan, which forces it.
use Rattle.std.proofs.Common.{◌≡◌, ◌≢◌, ◌⊎◌, ℕ, ◌<◌, Bool, true, false, ◌&&◌, nat_le, List, [], ◌∷◌, ◌++◌, Option, Some, None, refl, sym, ap, ◌∙◌, subst, arith, inl, inr, pos}
use Rattle.std.proofs.lemmas.Bool.{cases_Bool}
use Rattle.std.proofs.lemmas.Bool.Decides.{nat_tests}
use Rattle.std.proofs.lemmas.Int.{ints}
use Rattle.std.proofs.lemmas.Option.{slice_get_within}
use Rattle.std.specs.Prelude.{ℤ, ◌-ℤ◌, ◌<ℤ◌, slice_get, MatchOption}
use Rattle.hs_base.specs.declared.ids.PointId.{PointId}
use Rattle.hs_base.specs.declared.limits.TheConstants.{LAST}
use Rattle.hs_base.specs.declared.mission.Mission.{Mission}
use Rattle.hs_base.specs.declared.net.Bound.{Bound}
use Rattle.hs_base.specs.declared.plan.Extension.{Extension}
use Rattle.hs_base.specs.Bounds.{bounds_of}
use Rattle.hs_base.specs.Checked.{Checked}
use Rattle.hs_base.specs.Fits.{Forbids}
use Rattle.hs_base.specs.Moments.{Bars, IsLate, Moment}
use Rattle.hs_base.specs.Points.{Point, count, device_ends, is_observed, points_of}
use Rattle.hs_base.specs.Schedule.{Tight, bound}
use Rattle.hs_machine.specs.declared.history.Deed.{Deed}
use Rattle.hs_machine.specs.declared.history.Deed.TheVariants.{Early, Late}
use Rattle.hs_machine.specs.declared.history.Entry.{Entry}
use Rattle.hs_machine.specs.declared.history.Phase.{Phase}
use Rattle.hs_machine.specs.declared.history.Phase.TheVariants.{Failed, Waiting}
use Rattle.hs_machine.specs.Machine.{Event, EventReply, PointReply, RefusedIf, Replies, TickReply, ToldReply, already, failed, is_over, is_waiting, needs_net, no_net, no_point, not_observed, over, report, tick}
use Rattle.hs_machine.specs.Run.{MayAdd, Run}
use Rattle.hs_machine.specs.State.{count_at, executed, hands_over, has_failed, moment_of, phase_of, plan_of, tick_at}
use Rattle.base_laws.proofs.ListLemmas.{EachAfter-push}
use Rattle.plan_laws.specs.Fit.{IsFit}
use Rattle.plan_laws.proofs.FitLemmas.{after_origin, before_last}
use Rattle.run_laws.proofs.CheckedLemmas.{run_checked}
use Rattle.run_laws.proofs.RunLemmas.{otherwise}
use Rattle.run_laws.proofs.StateLemmas.{plan_kept}
use Rattle.exec_laws.proofs.RunningLemmas.{executed_in}
use Rattle.exec_laws.proofs.StepLemmas.{phase_failed, phase_waiting}
use Rattle.simulation_laws.specs.Ended.{IsFailedBy}
use Rattle.simulation_laws.specs.Failing.{IsForcedBy}

-- a reply that names a bound is one to the event itself
failed_event : (m : Mission) (h : List Entry) (event : Event) (b : Bound) → Replies m h event (failed b) → EventReply m h event (failed b)
failed_event m h event b lawful = otherwise _ _ _ (otherwise _ _ _ lawful (λ (e : failed b ≡ over). cc)) (λ (e : failed b ≡ no_net). cc)

-- what the machine's first lines say of such a reply in a phase
abbrev Answered : Mission → List Entry → Event → Bound → Bool → Phase → Type 0
Answered m h event b needs phase = RefusedIf (is_over phase) over (failed b) (RefusedIf (is_waiting phase && needs) no_net (failed b) (EventReply m h event (failed b)))

-- to one that asks for a plan, where there is one
failed_planned : (m : Mission) (h : List Entry) (event : Event) (b : Bound) → needs_net event ≡ true → Replies m h event (failed b) → plan_of h ≢ []
failed_planned m h event b needs lawful none = elim (cases_Bool (has_failed h)) [
  | inl broken ↦ absurd (let e : failed b ≡ over = answered Failed (phase_failed h broken) in cc)
  | inr sound ↦ absurd (let e : failed b ≡ no_net = answered Waiting (phase_waiting h sound none) in cc)
]
  where
    answered : (phase : Phase) → phase_of h ≡ phase → Answered m h event b true phase
    answered phase is = subst (Answered m h event b true) is (subst (λ (n : Bool). Answered m h event b n (phase_of h)) needs lawful)

-- a report that fails is that of a point which isn't executed
failed_told : (w : Moment) (x : ℕ) (b : Bound) (P : Type 0) → PointReply w x (failed b) P → (x < w.points) × (w.at x ≡ None) × P
failed_told w x b P reply =
    let there = below (nat_le w.points x) refl reply in
    let rest = inside (w.at x) (otherwise _ _ _ reply (λ (e : failed b ≡ no_point). cc)) in
    (there, rest.0, rest.1)
  where
    below : (o : Bool) → nat_le w.points x ≡ o → RefusedIf o no_point (failed b) (MatchOption (w.at x) P (λ t. failed b ≡ already t)) → x < w.points
    below true is r = absurd (let e : failed b ≡ no_point = r in cc)
    below false is r = grind (arith, nat_tests, is)

    inside : (o : Option ℤ) → MatchOption o P (λ t. failed b ≡ already t) → (o ≡ None) × P
    inside None r = (refl, r)
    inside (Some t) r = absurd (cc)

-- an observed point is one of the plan
observed_in : (m : Mission) (es : List Extension) (x : ℕ) → is_observed m es x ≡ true → x < count es
observed_in m es x is = by_case (slice_get (points_of es) x) refl is
  where
    by_case : (o : Option Point) → slice_get (points_of es) x ≡ o → device_ends m es o ≡ true → x < count es
    by_case None at is = absurd (let e : false ≡ true = is in cc)
    by_case (Some p) at is = slice_get_within (points_of es) x p at

module _ (m : Mission) (es : List Extension) (checked : Checked m es) (p q : ℕ) (low : p < count es) (high : q < count es) (most : ℤ) (tight : Tight (bounds_of m es) p q most) where
  -- a distance in a checked plan is in the range of bounds
  tight_fit : IsFit (count es) (bound p q most)
  tight_fit = record {
    from = low;
    to = high;
    least =
        let kept = tight.implied.holds checked.schedule checked.meets in
        let first = (after_origin m es q high).holds checked.schedule checked.meets in
        let last = (before_last m es p low).holds checked.schedule checked.meets in
        omega (arith, ints, kept, first, last, checked.meets.origin);
    most = tight.least LAST (record {
      holds = λ s h.
          (let last = (before_last m es q high).holds s h in
          let first = (after_origin m es p low).holds s h in
          omega (arith, ints, first, last));
    });
  }

  -- the plan forces such a bound between two different points
  forced : (p ≡ q → ⊥) → (b : Bound) → b ≡ bound p q most → IsForcedBy m es b
  forced apart b is = subst (IsForcedBy m es) (sym is) (record { apart = λ same. apart (ap (λ (x : PointId). x.0) same); fit = tight_fit; tight = tight })

module _ (m : Mission) (h : List Entry) (run : Run m h) (b : Bound) (some : plan_of h ≢ []) where
  late_forced : IsLate (moment_of m h) b → IsForcedBy m (plan_of h) b
  late_forced late =
      let l = late.0 in
      forced m (plan_of h) (run_checked m h run some) l.from l.to ((executed_in m h run).within l.from l.at_from l.set) (observed_in m (plan_of h) l.to l.watched) l.most l.tight
      (λ same. let e : Some l.at_from ≡ None = sym l.set ∙ ap (executed h) same ∙ l.open_to in cc) b late.1

  early_forced : (x : ℕ) → x < count_at h → executed h x ≡ None → Bars (moment_of m h) x b → IsForcedBy m (plan_of h) b
  early_forced x below free bars =
      let f = bars.0 in
      let checked = run_checked m h run some in
      forced m (plan_of h) checked x f.to below f.below f.most f.tight (apart f checked f.broken) b bars.1
    where
      apart : (f : Forbids (count_at h) (bounds_of m (plan_of h)) (executed h) (tick_at h) x) → Checked m (plan_of h) → ((t : ℤ) × (executed h f.to ≡ Some t) × (f.most <ℤ (t -ℤ tick_at h))) ⊎ ((executed h f.to ≡ None) × (f.most <ℤ pos 0)) → x ≡ f.to → ⊥
      apart f checked (inl set) same = let e : Some set.0 ≡ None = sym set.1 ∙ ap (executed h) (sym same) ∙ free in cc
      apart f checked (inr unset) same =
          let kept = f.tight.implied.holds checked.schedule checked.meets in
          let one : checked.schedule x ≡ checked.schedule f.to = ap checked.schedule same in
          absurd (omega (arith, ints, kept, one, unset.1))

-- the run before the entry
before_last_entry : (m : Mission) (before : List Entry) (e : Entry) → Run m (before ++ e ∷ []) → Run m before × MayAdd m before e
before_last_entry m before e run = let parts = EachAfter-push (MayAdd m) [] before e run.entries in (record { mission = run.mission; entries = parts.0 }, parts.1)

by_late : (m : Mission) (before : List Entry) (by : ℕ) (b : Bound) → Run m (before ++ (record { by = by; deed = Late b }) ∷ []) → IsForcedBy m (plan_of before) b
by_late m before by b run =
    let r = before_last_entry m before (record { by = by; deed = Late b }) run in
    let left = r.1.answers.leaves.1 in
    let lawful : Replies m before tick (failed b) = subst (Replies m before tick) left.1 (subst (λ (e : Event). Replies m before e r.1.reply) left.0 r.1.answers.lawful) in
    let reply : TickReply (moment_of m before) (failed b) = failed_event m before tick b lawful in
    late_forced m before r.0 b (failed_planned m before tick b refl lawful) reply.2

by_early : (m : Mission) (before : List Entry) (by : ℕ) (b : Bound) → Run m (before ++ (record { by = by; deed = Early b }) ∷ []) → IsForcedBy m (plan_of before) b
by_early m before by b run =
    let r = before_last_entry m before (record { by = by; deed = Early b }) run in
    let left = r.1.answers.leaves.1 in
    let x = b.from.0 in
    let lawful : Replies m before (report x) (failed b) = subst (Replies m before (report x)) left.1 (subst (λ (e : Event). Replies m before e r.1.reply) left.0 r.1.answers.lawful) in
    let told = failed_told (moment_of m before) x b _ (failed_event m before (report x) b lawful) in
    let reply : ToldReply (moment_of m before) x (failed b) = otherwise _ _ _ told.2 (λ (e : failed b ≡ not_observed). cc) in
    early_forced m before r.0 b (failed_planned m before (report x) b refl lawful) x told.0 told.1 reply.1

-- The bound that the last entry of a failed run names.
pub failed_by_tight : (m : Mission) (h : List Entry) (b : Bound) → Run m h → IsFailedBy h b → IsForcedBy m (plan_of h) b
failed_by_tight m h b run fails = elim fails [
  | inl late ↦ subst (λ (es : List Extension). IsForcedBy m es b) (sym (kept late.before late.by (Late b) refl late.is)) (by_late m late.before late.by b (subst (Run m) late.is run))
  | inr early ↦ subst (λ (es : List Extension). IsForcedBy m es b) (sym (kept early.before early.by (Early b) refl early.is)) (by_early m early.before early.by b (subst (Run m) early.is run))
]
  where
    kept : (before : List Entry) (by : ℕ) (deed : Deed) → hands_over deed ≡ None → h ≡ before ++ (record { by = by; deed = deed }) ∷ [] → plan_of h ≡ plan_of before
    kept before by deed none is = ap plan_of is ∙ plan_kept before (record { by = by; deed = deed }) none
