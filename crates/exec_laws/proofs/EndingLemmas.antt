-- Where a run has ended, only ends of last tokens are not executed.
use Rattle.std.proofs.Common.{◌≡◌, ◌≢◌, ℕ, zero, suc, ◌+◌, ◌-◌, ◌<◌, ◌≤◌, Bool, true, false, nat_eq, List, [], ◌∷◌, ◌++◌, length, get_or, Option, Some, None, refl, sym, ap, ◌∙◌, subst, arith, length-append, inl, inr, pos, is_some, map}
use Rattle.std.proofs.lemmas.Int.{ints}
use Rattle.std.proofs.lemmas.Bool.{cases_lt}
use Rattle.std.proofs.lemmas.Bool.Decides.{nat_tests}
use Rattle.std.proofs.lemmas.Option.{slice_get_within, slice_get-get_or}
use Rattle.std.specs.Prelude.{slice_get, ℤ, ◌≤ℤ◌, ◌<ℤ◌}
use Rattle.hs_base.specs.declared.mission.Horizon.{Horizon}
use Rattle.hs_base.specs.declared.mission.Mission.{Mission}
use Rattle.hs_base.specs.declared.plan.TokenRef.{TokenRef}
use Rattle.hs_base.specs.declared.plan.Extension.{Extension}
use Rattle.hs_machine.specs.declared.history.Entry.{Entry}
use Rattle.hs_base.specs.Missions.{IsMission}
use Rattle.hs_base.specs.Schedule.{Schedule}
use Rattle.hs_base.specs.Points.{Point, origin, horizon, ending, place_of, points_of, new_points, refs_after, tokens_of, timeline_of, count, hor, start_at}
use Rattle.hs_base.specs.Bounds.{IsScheduleOf}
use Rattle.hs_machine.specs.declared.history.Phase.TheVariants.{Waiting, Running, Failed, Ended}
use Rattle.hs_base.specs.Walks.{EachAfter}
use Rattle.hs_base.specs.Checked.{KeepsRules, Checked}
use Rattle.hs_base.proofs.RuleLemmas.{base_kept}
use Rattle.hs_machine.specs.State.{plan_of, count_at, executed, tick_at, has_failed, has_ended, phase_of}
use Rattle.hs_machine.specs.Run.{Run}
use Rattle.base_laws.proofs.ListLemmas.{front_induction, in_order, EachAfter-push}
use Rattle.base_laws.proofs.PointLemmas.{named, points-push, place_after, horizon_kept}
use Rattle.plan_laws.proofs.PlanLemmas.{restricts}
use Rattle.run_laws.proofs.RunLemmas.{run_fits}
use Rattle.run_laws.proofs.CheckedLemmas.{run_checked}
use Rattle.plan_laws.proofs.SpanLemmas.{starts_in}
use Rattle.exec_laws.specs.Endings.{IsLastEnd}
use Rattle.exec_laws.proofs.HorizonLemmas.{ending_of, horizon_at}
use Rattle.exec_laws.proofs.StepLemmas.{phase_failed, phase_waiting, phase_flying}
use Rattle.exec_laws.proofs.RunningLemmas.{executed_in}

-- an index inside a list finds an element
not_past : {X : Type 0} (xs : List X) (i : ℕ) → i < length xs → slice_get xs i ≡ None → ⊥
not_past [] i below is = omega (arith, below)
not_past (x ∷ xs) zero below is = cc
not_past (x ∷ xs) (suc i) below is = not_past xs i (omega (arith, below)) is

-- each horizon's point is at its tick
horizon_in : (m : Mission) (s : Schedule) (es : List Extension) (j : ℕ) (g : Horizon) → IsScheduleOf m es s → 0 < j → j ≤ length es → slice_get m.horizons (j - 1) ≡ Some g → s (hor es j) ≡ g.tick
horizon_in m s = front_induction (λ es. (j : ℕ) (g : Horizon) → IsScheduleOf m es s → 0 < j → j ≤ length es → slice_get m.horizons (j - 1) ≡ Some g → s (hor es j) ≡ g.tick) (λ j g meets some less is. absurd (omega (arith, some, less))) step
  where
    step : (before : List Extension) (e : Extension) → ((j : ℕ) (g : Horizon) → IsScheduleOf m before s → 0 < j → j ≤ length before → slice_get m.horizons (j - 1) ≡ Some g → s (hor before j) ≡ g.tick)
        → (j : ℕ) (g : Horizon) → IsScheduleOf m (before ++ e ∷ []) s → 0 < j → j ≤ length (before ++ e ∷ []) → slice_get m.horizons (j - 1) ≡ Some g → s (hor (before ++ e ∷ []) j) ≡ g.tick
    step before e old j g meets some less is =
        let size : length (before ++ e ∷ []) ≡ length before + 1 = length-append before (e ∷ []) in
        elim (cases_lt (length before) j) [
          | inl last ↦
              let same : length (before ++ e ∷ []) ≡ j = omega (arith, size, less, last) in
              let found : slice_get m.horizons (length (before ++ e ∷ []) - 1) ≡ Some g = ap (λ (n : ℕ). slice_get m.horizons (n - 1)) same ∙ is in
              let full : before ++ e ∷ [] ≢ [] = λ (none : before ++ e ∷ [] ≡ []). absurd (omega (arith, ap length none, size)) in
              ap (λ (n : ℕ). s (hor (before ++ e ∷ []) n)) (sym same) ∙ horizon_at m (before ++ e ∷ []) s g full meets found
          | inr inside ↦ ap s (horizon_kept before e j some (omega (arith, inside))) ∙ old j g (restricts m before e s meets) some (omega (arith, inside)) is
        ]

-- no point is the horizon of number 0
no_ends : (ts : List TokenRef) → place_of (horizon 0) (map (λ t. ending t.sv.0 t.place) ts) ≡ length (map (λ (t : TokenRef). ending t.sv.0 t.place) ts)
no_ends [] = refl
no_ends (t ∷ ts) = ap suc (no_ends ts)

no_zero : (es : List Extension) → place_of (horizon 0) (points_of es) ≡ count es
no_zero = front_induction (λ es. place_of (horizon 0) (points_of es) ≡ count es) refl step
  where
    step : (before : List Extension) (e : Extension) → place_of (horizon 0) (points_of before) ≡ count before → place_of (horizon 0) (points_of (before ++ e ∷ [])) ≡ count (before ++ e ∷ [])
    step before e old =
        let other : nat_eq 0 (length before + 1) ≡ false = grind (arith, nat_tests) in
        let new : place_of (horizon 0) (new_points before e) ≡ length (new_points before e) = rw other (ap suc (no_ends (refs_after (tokens_of before) e.tokens))) in
        let parts = points-push before e in
        ap (place_of (horizon 0)) parts ∙ place_after (horizon 0) (points_of before) (new_points before e) old ∙ ap (λ n. count before + n) new ∙ sym (ap length parts ∙ length-append (points_of before) (new_points before e))

module _ (m : Mission) (h : List Entry) (run : Run m h) (some : plan_of h ≢ []) (over : has_ended h ≡ true) (g : Horizon) (is : slice_get m.horizons (length (plan_of h) - 1) ≡ Some g) where
  abbrev es : List Extension
  es = plan_of h

  some_time : (o : Option ℤ) → is_some o ≡ true → (t : ℤ) × (o ≡ Some t)
  some_time None e = absurd (cc)
  some_time (Some t) e = (t, refl)

  -- the time is at or past the horizon
  past_horizon : g.tick ≤ℤ tick_at h
  past_horizon =
      let f = run_fits m h run some in
      let t = some_time (executed h (hor es (length es))) over in
      omega (arith, ints, horizon_at m es f.s g some f.fits.meets is, f.fits.past (hor es (length es)) t.0 t.1, (executed_in m h run).late (hor es (length es)) t.0 t.1)

  -- so an open point's time is
  open_late : (x : ℕ) → x < count_at h → executed h x ≡ None → (s : Schedule) × IsScheduleOf m es s × (g.tick ≤ℤ s x)
  open_late x below free = let f = run_fits m h run some in (f.s, f.fits.meets, omega (arith, ints, past_horizon, f.fits.future x below free))

  -- the number of a horizon point
  mark_number : (x j : ℕ) → x < count es → slice_get (points_of es) x ≡ Some (horizon j) → (0 < j) × (j ≤ length es)
  mark_number x zero below at = absurd (omega (arith, below, (named es).once x (horizon 0) at, no_zero es))
  mark_number x (suc j) below at = elim (cases_lt (length es) (suc j)) [
    | inl past ↦ absurd (omega (arith, below, (named es).once x (horizon (suc j)) at, (named es).marks_new (suc j) past))
    | inr inside ↦ (omega arith, omega (arith, inside))
  ]

  -- a horizon's point is executed
  no_mark : IsMission m → (x j : ℕ) → x < count_at h → executed h x ≡ None → slice_get (points_of es) x ≡ Some (horizon j) → ⊥
  no_mark mission x j below free at =
      let number = mark_number x j below at in
      let place : hor es j ≡ x = (named es).once x (horizon j) at in
      let late = open_late x below free in
      elim (cases_lt j (length es)) [
        | inr last ↦
            let same : j ≡ length es = omega (arith, number.1, last) in
            let none : is_some (executed h (hor es (length es))) ≡ false = ap (λ (n : ℕ). is_some (executed h (hor es n))) (sym same) ∙ ap (λ (y : ℕ). is_some (executed h y)) place ∙ ap is_some free in
            absurd (let c : true ≡ false = sym over ∙ none in cc)
        | inl earlier ↦
            let inside = slice_get_within m.horizons (length es - 1) g is in
            let prior : Horizon = get_or m.horizons (j - 1) g in
            let found : slice_get m.horizons (j - 1) ≡ Some prior = slice_get-get_or m.horizons (j - 1) g (omega (arith, inside, earlier)) in
            let rises : prior.tick <ℤ g.tick = in_order (λ (a b : Horizon). a.tick <ℤ b.tick) m.horizons (j - 1) (length es - 1) prior g mission.rising found is (omega (arith, number.0, earlier)) in
            omega (arith, ints, rises, horizon_in m late.0 es j prior late.1 number.0 number.1 found, ap late.0 place, late.2)
      ]

  -- the number of a token's end
  end_number : (x v i : ℕ) → x < count es → slice_get (points_of es) x ≡ Some (ending v i) → i < length (timeline_of (tokens_of es) v)
  end_number x v i below at = elim (cases_lt i (length (timeline_of (tokens_of es) v))) [
    | inl inside ↦ inside
    | inr past ↦ absurd (omega (arith, below, (named es).once x (ending v i) at, (named es).ends_new v i (omega (arith, past))))
  ]

  pub last_end : IsMission m → (x : ℕ) → x < count_at h → executed h x ≡ None → IsLastEnd es x
  last_end mission x below free = by_name (get_or (points_of es) x origin) (slice_get-get_or (points_of es) x origin below)
    where
      by_name : (p : Point) → slice_get (points_of es) x ≡ Some p → IsLastEnd es x
      by_name origin at =
          let z : 0 ≡ x = (named es).once x origin at in
          let none : Some (pos 0) ≡ None = ap (executed h) z ∙ free in
          absurd (cc)
      by_name (horizon j) at = absurd (no_mark mission x j below free at)
      by_name (ending v i) at =
          let inside = end_number x v i below at in
          let late = open_late x below free in
          let place : start_at es v (suc i) ≡ x = (named es).once x (ending v i) at in
          elim (cases_lt (suc i) (length (timeline_of (tokens_of es) v))) [
            | inl start ↦ absurd (omega (arith, ints, (starts_in m late.0 es mission late.1).each g v (suc i) is start, ap late.0 place, late.2))
            | inr last ↦ record { sv = v; place = i; is = at; last = omega (arith, inside, last) }
          ]

-- a checked plan that isn't empty has its last horizon
pub last_horizon : (m : Mission) (es : List Extension) → Checked m es → es ≢ [] → (g : Horizon) × (slice_get m.horizons (length es - 1) ≡ Some g)
last_horizon m es k some =
    let r = ending_of es some in
    let rules = (EachAfter-push (KeepsRules m) [] r.front r.last (subst (EachAfter (KeepsRules m) []) r.is k.rules)).1 in
    let size = ap length r.is ∙ length-append r.front (r.last ∷ []) in
    at (slice_get m.horizons (length es - 1)) refl (omega (arith, size, (base_kept rules).horizon_left))
  where
    at : (o : Option Horizon) → slice_get m.horizons (length es - 1) ≡ o → length es - 1 < length m.horizons → (g : Horizon) × (slice_get m.horizons (length es - 1) ≡ Some g)
    at (Some g) is below = (g, is)
    at None is below = absurd (not_past m.horizons (length es - 1) below is)

-- an ended state
record HasEnded (h : List Entry) : Type 0 where
  some : plan_of h ≢ []
  over : has_ended h ≡ true

ended : (h : List Entry) → phase_of h ≡ Ended → HasEnded h
ended h is = by_parts (has_failed h) refl (plan_of h) refl (has_ended h) refl is
  where
    by_parts : (b : Bool) → has_failed h ≡ b → (es : List Extension) → plan_of h ≡ es → (c : Bool) → has_ended h ≡ c → phase_of h ≡ Ended → HasEnded h
    by_parts true fail es plan c over is = absurd (let e : Failed ≡ Ended = sym (phase_failed h fail) ∙ is in cc)
    by_parts false fail [] plan c over is = absurd (let e : Waiting ≡ Ended = sym (phase_waiting h fail plan) ∙ is in cc)
    by_parts false fail (x ∷ es) plan false over is = absurd (let e : Running ≡ Ended = sym (phase_flying h false fail (λ (e : plan_of h ≡ []). let f : x ∷ es ≡ [] = sym plan ∙ e in cc) over) ∙ is in cc)
    by_parts false fail (x ∷ es) plan true over is = record { some = λ (e : plan_of h ≡ []). let f : x ∷ es ≡ [] = sym plan ∙ e in cc; over = over }

-- a run that has ended
pub ended_leaves : (m : Mission) (h : List Entry) → Run m h → phase_of h ≡ Ended → (x : ℕ) → x < count_at h → executed h x ≡ None → IsLastEnd (plan_of h) x
ended_leaves m h run is x below free =
    let e = ended h is in
    let k = run_checked m h run e.some in
    let last = last_horizon m (plan_of h) k e.some in
    last_end m h run e.some e.over last.0 last.1 k.mission x below free
