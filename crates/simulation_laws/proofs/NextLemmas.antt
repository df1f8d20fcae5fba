-- Only the end or the horizon's point that some line shows may be fired, and a line stays while its end is open.
use Rattle.std.proofs.Common.{◌≡◌, ◌≢◌, ℕ, zero, suc, ◌+◌, ◌-◌, ◌<◌, ◌≤◌, cond, List, [], ◌∷◌, ◌++◌, length, map, get_or, is_some, Option, Some, None, refl, sym, ap, ◌∙◌, subst, arith, inl, inr, length-append, pos}
use Rattle.std.proofs.lemmas.Int.{ints}
use Rattle.std.proofs.lemmas.Bool.{cases_lt}
use Rattle.std.proofs.lemmas.List.{length-map}
use Rattle.std.proofs.lemmas.List.FromFn.{length-range_with_len}
use Rattle.std.proofs.lemmas.Option.{get_or_from_slice_get, slice_get-get_or, slice_get_within}
use Rattle.std.specs.Prelude.{ℤ, ◌≤ℤ◌, ◌<ℤ◌, slice_get, unwrap_or}
use Rattle.hs_base.specs.declared.ids.PointId.{PointId}
use Rattle.hs_base.specs.declared.mission.Kind.{Kind}
use Rattle.hs_base.specs.declared.mission.Mission.{Mission}
use Rattle.hs_base.specs.declared.plan.Extension.{Extension}
use Rattle.hs_base.specs.Bounds.{IsScheduleOf}
use Rattle.hs_base.specs.Checked.{Checked, KeepsRules}
use Rattle.hs_base.specs.Fits.{Times, time_at}
use Rattle.hs_base.specs.Missions.{IsMission}
use Rattle.hs_base.specs.Points.{Point, origin, horizon, ending, count, hor, points_of, start_at}
use Rattle.hs_base.specs.Schedule.{Schedule, numbers_from}
use Rattle.hs_base.specs.Walks.{EachAfter}
use Rattle.hs_machine.specs.declared.history.Entry.{Entry}
use Rattle.hs_machine.specs.Eager.{NoneMayFire}
use Rattle.hs_machine.specs.Machine.{Replies, done, fire}
use Rattle.hs_machine.specs.Run.{MayAdd, Run}
use Rattle.hs_machine.specs.State.{executed, executes, hands_over, plan_of, tick_at}
use Rattle.hs_machine.specs.Views.{ends_of, first_waiting, line_of, marks_of}
use Rattle.base_laws.proofs.ListLemmas.{front_induction, EachAfter-push}
use Rattle.base_laws.proofs.PointLemmas.{count-push, horizon_kept, horizon_number, named}
use Rattle.plan_laws.proofs.LengthLemmas.{number_at}
use Rattle.plan_laws.proofs.PlanLemmas.{restricts}
use Rattle.run_laws.proofs.CheckedLemmas.{run_checked}
use Rattle.run_laws.proofs.RunLemmas.{fresh}
use Rattle.run_laws.proofs.StateLemmas.{executed-put, plan_kept, times_kept}
use Rattle.exec_laws.proofs.EndingLemmas.{last_horizon}
use Rattle.exec_laws.proofs.HorizonLemmas.{horizon_at}
use Rattle.exec_laws.proofs.ReplyLemmas.{done_running}
use Rattle.exec_laws.proofs.StepLemmas.{running}
use Rattle.simulation_laws.specs.Reported.{timeline_in}
use Rattle.simulation_laws.specs.Shown.{IsSameToken, IsShown}
use Rattle.simulation_laws.proofs.AfterLemmas.{MayBeFired, fired_so, new_point_late, no_zero}
use Rattle.simulation_laws.proofs.LineLemmas.{done_before, end_there, executed_stays, put_apart, waits_by, waits_first}
use Rattle.simulation_laws.proofs.RisingLemmas.{end_at, ends_rise, token_below}

-- In a schedule of a checked plan the horizons' points rise.
marks_rise : (m : Mission) (s : Schedule) → IsMission m → (es : List Extension) → EachAfter (KeepsRules m) [] es → IsScheduleOf m es s → (j k : ℕ) → 0 < j → j < k → k ≤ length es → s (hor es j) <ℤ s (hor es k)
marks_rise m s mission = front_induction (λ es. EachAfter (KeepsRules m) [] es → IsScheduleOf m es s → (j k : ℕ) → 0 < j → j < k → k ≤ length es → s (hor es j) <ℤ s (hor es k)) (λ rules meets j k some less within. absurd (omega (arith, less, within))) step
  where
    step : (before : List Extension) (e : Extension)
        → (EachAfter (KeepsRules m) [] before → IsScheduleOf m before s → (j k : ℕ) → 0 < j → j < k → k ≤ length before → s (hor before j) <ℤ s (hor before k))
        → EachAfter (KeepsRules m) [] (before ++ e ∷ []) → IsScheduleOf m (before ++ e ∷ []) s → (j k : ℕ) → 0 < j → j < k → k ≤ length (before ++ e ∷ []) → s (hor (before ++ e ∷ []) j) <ℤ s (hor (before ++ e ∷ []) k)
    step before e old rules meets j k some less within =
        let size : length (before ++ e ∷ []) ≡ length before + 1 = length-append before (e ∷ []) in
        let front = (EachAfter-push (KeepsRules m) [] before e rules).0 in
        let earlier = restricts m before e s meets in
        let kept = ap s (horizon_kept before e j some (omega (arith, less, within, size))) in
        elim (cases_lt (length before) k) [
          | inl last ↦
              let is_last : k ≡ length before + 1 = omega (arith, last, within, size) in
              let full : before ≢ [] = λ (none : before ≡ []). omega (arith, ap length none, is_last, some, less) in
              let g = last_horizon m before (record { mission = mission; rules = front; schedule = s; meets = earlier }) full in
              let behind = new_point_late m before e (record { mission = mission; rules = rules; schedule = s; meets = meets }) full s meets g.0 g.1 (count before) (omega arith) (omega (arith, count-push before e)) in
              let number = ap s (ap (hor (before ++ e ∷ [])) is_last ∙ horizon_number before e) in
              let at = horizon_at m before s g.0 full earlier g.1 in
              elim (cases_lt j (length before)) [
                | inl inside ↦ omega (arith, ints, old front earlier j (length before) some inside (omega arith), kept, behind, number, at)
                | inr no_more ↦
                    let same : j ≡ length before = omega (arith, no_more, is_last, less) in
                    omega (arith, ints, ap (λ (i : ℕ). s (hor before i)) same, kept, behind, number, at)
              ]
          | inr inside ↦ omega (arith, ints, old front earlier j k some less (omega (arith, inside)), kept, ap s (horizon_kept before e k (omega (arith, some, less)) (omega (arith, inside))))
        ]

-- the point of a horizon, among all in their order
mark_there : (es : List Extension) (i : ℕ) → i < length es → slice_get (marks_of es) i ≡ Some (hor es (i + 1))
mark_there es i below = mapped (hor es) (numbers_from 1 (length es)) i (1 + i) (number_at 1 (length es) i below) ∙ ap (λ (k : ℕ). Some (hor es k)) (omega arith)
  where
    mapped : (f : ℕ → ℕ) (xs : List ℕ) (j x : ℕ) → slice_get xs j ≡ Some x → slice_get (map f xs) j ≡ Some (f x)
    mapped f [] j x is = absurd (cc)
    mapped f (y ∷ ys) zero x is = let same : y ≡ x = cc in ap (λ z. Some (f z)) same
    mapped f (y ∷ ys) (suc j) x is = mapped f ys j x is

-- the number of a horizon's point, and of the end of a token
mark_number : (es : List Extension) (x j : ℕ) → x < count es → slice_get (points_of es) x ≡ Some (horizon j) → (0 < j) × (j ≤ length es)
mark_number es x zero below at = absurd (omega (arith, below, (named es).once x (horizon 0) at, no_zero es))
mark_number es x (suc j) below at = elim (cases_lt (length es) (suc j)) [
  | inl past ↦ absurd (omega (arith, below, (named es).once x (horizon (suc j)) at, (named es).marks_new (suc j) past))
  | inr inside ↦ (omega arith, omega (arith, inside))
]

end_number : (es : List Extension) (x v i : ℕ) → x < count es → slice_get (points_of es) x ≡ Some (ending v i) → i < length (timeline_in es v)
end_number es x v i below at = elim (cases_lt i (length (timeline_in es v))) [
  | inl inside ↦ inside
  | inr past ↦ absurd (omega (arith, below, (named es).once x (ending v i) at, (named es).ends_new v i (omega (arith, past))))
]

-- A point that may be fired.
module _ (m : Mission) (h : List Entry) (run : Run m h) (x : ℕ) (lawful : Replies m h (fire x) done) where
  abbrev es : List Extension
  es = plan_of h

  checked : Checked m es
  checked = run_checked m h run (running h (done_running m h (fire x) lawful refl)).some

  f : MayBeFired m h x
  f = fired_so m h x lawful

  -- each open point comes no earlier
  no_earlier : (y : ℕ) → y < count es → executed h y ≡ None → f.may.s x ≤ℤ f.may.s y
  no_earlier y below free = omega (arith, ints, f.may.fits.future y below free, f.may.here)

  -- a horizon's point is the next one
  next_mark : (j : ℕ) → slice_get (points_of es) x ≡ Some (horizon j) → x ≡ (line_of m h 0).mark
  next_mark j at =
      let number = mark_number es x j f.below at in
      let place : hor es j ≡ x = (named es).once x (horizon j) at in
      let i = j - 1 in
      let one : i + 1 ≡ j = omega (arith, number.0) in
      let there : slice_get (marks_of es) i ≡ Some x = mark_there es i (omega (arith, number.1, one)) ∙ ap (λ (k : ℕ). Some (hor es k)) one ∙ ap Some place in
      let first = first_waiting (executed h) (marks_of es) in
      let low : first ≤ i = waits_by (executed h) (marks_of es) i x there f.none in
      elim (cases_lt first i) [
        | inl before ↦
            let found = mark_there es first (omega (arith, before, number.1, one)) in
            let waits = waits_first (executed h) (marks_of es) (hor es (first + 1)) found in
            let rise = marks_rise m f.may.s checked.mission es checked.rules f.may.fits.meets (first + 1) j (omega arith) (omega (arith, before, one)) number.1 in
            let late = no_earlier (hor es (first + 1)) ((named es).marks_there (first + 1) (omega arith) (omega (arith, before, number.1, one))) waits in
            absurd (omega (arith, ints, rise, late, ap f.may.s place))
        | inr not_before ↦
            let same : i ≡ first = omega (arith, not_before, low) in
            sym (get_or_from_slice_get (marks_of es) first x 0 (ap (slice_get (marks_of es)) (sym same) ∙ there))
      ]

  -- the end of a token is that of the current one
  next_end : (v i : ℕ) → slice_get (points_of es) x ≡ Some (ending v i) → x ≡ (line_of m h v).end
  next_end v i at =
      let inside = end_number es x v i f.below at in
      let place : end_at es v i ≡ x = (named es).once x (ending v i) at in
      let first = first_waiting (executed h) (ends_of es v) in
      let low : first ≤ i = waits_by (executed h) (ends_of es v) i x (end_there es v i inside ∙ ap Some place) f.none in
      elim (cases_lt first i) [
        | inl before ↦
            let below : first < length (timeline_in es v) = omega (arith, before, inside) in
            let waits = waits_first (executed h) (ends_of es v) (end_at es v first) (end_there es v first below) in
            let rise = ends_rise m checked.mission es checked.rules f.may.s f.may.fits.meets v first i before inside in
            let late = no_earlier (end_at es v first) ((named es).ends_there v first below) waits in
            absurd (omega (arith, ints, rise, late, ap f.may.s place))
        | inr not_before ↦
            let same : i ≡ first = omega (arith, not_before, low) in
            sym place ∙ ap (end_at es v) same
      ]

  pub next_shown : IsShown m h x
  next_shown = by_name (get_or (points_of es) x origin) (slice_get-get_or (points_of es) x origin f.below)
    where
      by_name : (p : Point) → slice_get (points_of es) x ≡ Some p → IsShown m h x
      by_name origin at =
          let z : 0 ≡ x = (named es).once x origin at in
          absurd (let none : Some (pos 0) ≡ None = ap (executed h) z ∙ f.none in cc)
      by_name (horizon j) at = record { variable = 0; there = checked.mission.some_vars; is = inr (next_mark j at) }
      by_name (ending v i) at = record { variable = v; there = token_below m checked.mission es checked.rules v i (end_number es x v i f.below at); is = inl (next_end v i at) }

-- so where none of the points that the lines show may be fired, no point may be
pub none_next : (m : Mission) (h : List Entry) → Run m h
    → ((v : ℕ) → v < length m.vars → Replies m h (fire (line_of m h v).end) done → ⊥)
    → ((v : ℕ) → v < length m.vars → Replies m h (fire (line_of m h v).mark) done → ⊥)
    → NoneMayFire m h
none_next m h run ends marks x lawful =
    let shown = next_shown m h run x lawful in
    elim shown.is [
      | inl same ↦ ends shown.variable shown.there (subst (λ (y : ℕ). Replies m h (fire y) done) same lawful)
      | inr same ↦ marks shown.variable shown.there (subst (λ (y : ℕ). Replies m h (fire y) done) same lawful)
    ]

-- The first of some points that waits stays so, where what is executed stays so and it still waits.
first_stays : (at at2 : Times) (xs : List ℕ) → ((x : ℕ) (t : ℤ) → at x ≡ Some t → at2 x ≡ Some t) → ((x : ℕ) → slice_get xs (first_waiting at xs) ≡ Some x → at2 x ≡ None) → first_waiting at2 xs ≡ first_waiting at xs
first_stays at at2 [] stays waits = refl
first_stays at at2 (y ∷ ys) stays waits = by_case (at y) refl waits (λ rest. first_stays at at2 ys stays rest)
  where
    by_case : (o : Option ℤ) → at y ≡ o → ((x : ℕ) → slice_get (y ∷ ys) (cond (is_some o) (suc (first_waiting at ys)) 0) ≡ Some x → at2 x ≡ None)
        → (((x : ℕ) → slice_get ys (first_waiting at ys) ≡ Some x → at2 x ≡ None) → first_waiting at2 ys ≡ first_waiting at ys)
        → first_waiting at2 (y ∷ ys) ≡ cond (is_some o) (suc (first_waiting at ys)) 0
    by_case None here waits old = let none = waits y refl in rw none refl
    by_case (Some t) here waits old = let some = stays y t here in rw some (ap suc (old waits))

first_within : (at : Times) (xs : List ℕ) → first_waiting at xs ≤ length xs
first_within at [] = omega arith
first_within at (x ∷ xs) = by_case (at x) (first_within at xs)
  where
    by_case : (o : Option ℤ) → first_waiting at xs ≤ length xs → cond (is_some o) (suc (first_waiting at xs)) 0 ≤ suc (length xs)
    by_case None low = omega arith
    by_case (Some t) low = omega (arith, low)

module _ (m : Mission) (h : List Entry) (e : Entry) (v : ℕ) (adds : MayAdd m h e) (no_plan : hands_over e.deed ≡ None) (other : (x : PointId) → executes e.deed ≡ Some x → x.0 ≢ (line_of m h v).end) where
  abbrev at2 : Times
  at2 = executed (h ++ e ∷ [])

  abbrev i : ℕ
  i = (line_of m h v).place

  -- its end still waits
  end_waits : executed h (line_of m h v).end ≡ None → at2 (line_of m h v).end ≡ None
  end_waits waits = by_deed (executes e.deed) refl
    where
      by_deed : (o : Option PointId) → executes e.deed ≡ o → at2 (line_of m h v).end ≡ None
      by_deed None quiet = ap (λ ts. time_at ts (line_of m h v).end) (times_kept h e quiet) ∙ waits
      by_deed (Some x) ex =
          let free : executed h x.0 ≡ None = fresh m h e.deed x _ _ adds.answers.lawful adds.answers.leaves.1 ex in
          executed-put h e x (line_of m h v).end ex free ∙ put_apart (executed h) x.0 (line_of m h v).end (tick_at h) (λ same. other x ex (sym same)) ∙ waits

  size : length (ends_of (plan_of h) v) ≡ length (timeline_in (plan_of h) v)
  size = length-map (numbers_from 0 (length (timeline_in (plan_of h) v))) (end_at (plan_of h) v) ∙ length-range_with_len 0 (length (timeline_in (plan_of h) v))

  waits_on : (x : ℕ) → slice_get (ends_of (plan_of h) v) i ≡ Some x → at2 x ≡ None
  waits_on x is =
      let inside : i < length (timeline_in (plan_of h) v) = omega (arith, slice_get_within (ends_of (plan_of h) v) i x is, size) in
      let found : Some x ≡ Some (line_of m h v).end = sym is ∙ end_there (plan_of h) v i inside in
      let same : (line_of m h v).end ≡ x = cc in
      ap at2 (sym same) ∙ end_waits (ap (executed h) same ∙ waits_first (executed h) (ends_of (plan_of h) v) x is)

  same_plan : plan_of (h ++ e ∷ []) ≡ plan_of h
  same_plan = plan_kept h e no_plan

  same_place : (line_of m (h ++ e ∷ []) v).place ≡ i
  same_place = ap (λ es. first_waiting at2 (ends_of es v)) same_plan ∙ first_stays (executed h) at2 (ends_of (plan_of h) v) (executed_stays m h e adds) waits_on

  start_done : (j : ℕ) → j ≤ i → (t : ℤ) × (executed h (start_at (plan_of h) v j) ≡ Some t)
  start_done zero low = (pos 0, refl)
  start_done (suc j) low = done_before (executed h) (ends_of (plan_of h) v) j (end_at (plan_of h) v j) (omega (arith, low)) (end_there (plan_of h) v j (omega (arith, low, first_within (executed h) (ends_of (plan_of h) v), size)))

  pub line_stays : IsSameToken (line_of m h v) (line_of m (h ++ e ∷ []) v)
  line_stays =
      let t = start_done i (omega arith) in
      let start = executed_stays m h e adds (start_at (plan_of h) v i) t.0 t.1 ∙ sym t.1 in
      record {
        place = same_place;
        value = ap (λ es. get_or (map (λ (k : Kind). k.value.0) (timeline_in es v)) (line_of m (h ++ e ∷ []) v).place 0) same_plan ∙ ap (λ j. get_or (map (λ (k : Kind). k.value.0) (timeline_in (plan_of h) v)) j 0) same_place;
        end = ap (λ es. end_at es v (line_of m (h ++ e ∷ []) v).place) same_plan ∙ ap (end_at (plan_of h) v) same_place;
        start = ap (λ es. unwrap_or (at2 (start_at es v (line_of m (h ++ e ∷ []) v).place)) (pos 0)) same_plan ∙ ap (λ j. unwrap_or (at2 (start_at (plan_of h) v j)) (pos 0)) same_place ∙ ap (λ (o : Option ℤ). unwrap_or o (pos 0)) start;
      }
