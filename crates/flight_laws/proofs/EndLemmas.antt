-- A run that has ended, where no point is observed, ends by firing its newest horizon's point.
use Rattle.std.proofs.Common.{◌≡◌, ◌≢◌, ℕ, ◌+◌, Bool, true, false, cond, not, nat_eq, List, [], ◌∷◌, ◌++◌, length, length-append, Option, Some, None, is_some, refl, sym, ap, ◌∙◌, subst, arith, pos}
use Rattle.std.proofs.lemmas.Bool.{eqb-true}
use Rattle.std.specs.Prelude.{ℤ}
use Rattle.hs_base.specs.declared.ids.PointId.{PointId}
use Rattle.hs_base.specs.declared.mission.Mission.{Mission}
use Rattle.hs_base.specs.declared.plan.Extension.{Extension}
use Rattle.hs_machine.specs.declared.history.Entry.{Entry}
use Rattle.hs_machine.specs.declared.history.Deed.{Deed}
use Rattle.hs_machine.specs.declared.history.Deed.TheVariants.{Tick, Fire, Report, Handover, Stale as StaleDeed, Late, Early, Broken}
use Rattle.hs_machine.specs.declared.history.Phase.TheVariants.{Running, Failed, Ended}
use Rattle.hs_base.specs.Fits.{time_at}
use Rattle.hs_base.specs.Points.{hor, count}
use Rattle.hs_machine.specs.Run.{MayAdd, Run}
use Rattle.hs_machine.specs.State.{now_of, plan_of, executes, executed, hands_over, has_failed, has_ended, moment_of, phase_of, watched}
use Rattle.hs_machine.specs.Machine.{Event, Reply, report, done, over, not_observed, is_over, leaves_deed, RefusedIf, Replies, IsLeftBy}
use Rattle.base_laws.proofs.ListLemmas.{EachAfter-push}
use Rattle.base_laws.proofs.PointLemmas.{horizon_number}
use Rattle.run_laws.proofs.StateLemmas.{plan_kept, plan_handed, times_kept, executed-put}
use Rattle.run_laws.proofs.RunLemmas.{event_reply, point_rest, fresh}
use Rattle.exec_laws.proofs.ReplyLemmas.{not_over}
use Rattle.exec_laws.proofs.StepLemmas.{phase_flying, phase_failed}
use Rattle.exec_laws.proofs.HorizonLemmas.{ending_of}
use Rattle.exec_laws.proofs.RunningLemmas.{executed_in}
use Rattle.hs_base.specs.Walks.{EachAfter}
use Rattle.flight_laws.specs.Flights.{HasNoDevices, IsUnwatched, IsFlight, EndsByFiring, mark_of}
use Rattle.flight_laws.proofs.DeviceLemmas.{none_observed}
use Rattle.flight_laws.proofs.TurnLemmas.{with_deed, left_loud}

-- a deed is left in a state that isn't over
still_going : (m : Mission) (h : List Entry) (d : Deed) (event : Event) (reply : Reply) → Replies m h event reply → IsLeftBy m d event reply → is_over (phase_of h) ≡ false
still_going m h d event reply lawful left =
    not_over m h event reply lawful (λ (e : reply ≡ over). let f : true ≡ false = sym (left_loud m d event reply left) ∙ ap leaves_deed e in cc)

-- a state with a plan whose horizon's point is executed is over
over_at_mark : (h : List Entry) → plan_of h ≢ [] → has_ended h ≡ true → is_over (phase_of h) ≡ true
over_at_mark h some ended = by_case (has_failed h) refl
  where
    by_case : (b : Bool) → has_failed h ≡ b → is_over (phase_of h) ≡ true
    by_case true fails = ap is_over (phase_failed h fails)
    by_case false sound = ap is_over (phase_flying h true sound some ended)

-- an ended state has its horizon's point executed
ended_mark : (h : List Entry) → plan_of h ≢ [] → phase_of h ≡ Ended → has_ended h ≡ true
ended_mark h some is = by_case (has_failed h) refl (has_ended h) refl
  where
    by_case : (b : Bool) → has_failed h ≡ b → (c : Bool) → has_ended h ≡ c → has_ended h ≡ true
    by_case true fails c at = absurd (let e : Failed ≡ Ended = sym (phase_failed h fails) ∙ is in cc)
    by_case false sound true at = at
    by_case false sound false at = absurd (let e : Running ≡ Ended = sym (phase_flying h false sound some at) ∙ is in cc)

module _ (m : Mission) (h : List Entry) (by : ℕ) (run : Run m h) (unwatched : IsUnwatched m h) where
  abbrev after : Deed → List Entry
  after d = with_deed h by d

  -- what executes no point and hands nothing over doesn't end a run
  not_idle : (d : Deed) → plan_of h ≢ [] → executes d ≡ None → hands_over d ≡ None → is_over (phase_of h) ≡ false → has_ended (after d) ≡ true → ⊥
  not_idle d some quiet no_plan going ended =
      let e : Entry = record { by = by; deed = d } in
      let same : has_ended (after d) ≡ has_ended h = ap (λ ts. is_some (time_at ts (hor (plan_of (after d)) (length (plan_of (after d)))))) (times_kept h e quiet) ∙ ap (λ (es : List Extension). is_some (executed h (hor es (length es)))) (plan_kept h e no_plan) in
      let f : true ≡ false = sym (over_at_mark h some (sym same ∙ ended)) ∙ going in cc

  -- a handover doesn't either: its horizon's point is new
  not_handed : (d : Deed) (x : Extension) → executes d ≡ None → hands_over d ≡ Some x → has_ended (after d) ≡ true → ⊥
  not_handed d x quiet hands ended =
      let e : Entry = record { by = by; deed = d } in
      let size : length (plan_of h ++ x ∷ []) ≡ length (plan_of h) + 1 = length-append (plan_of h) (x ∷ []) in
      let number : hor (plan_of (after d)) (length (plan_of (after d))) ≡ count (plan_of h) = ap (λ (es : List Extension). hor es (length es)) (plan_handed h e x hands) ∙ ap (hor (plan_of h ++ x ∷ [])) size ∙ horizon_number (plan_of h) x in
      let same : has_ended (after d) ≡ is_some (executed h (count (plan_of h))) = ap (λ ts. is_some (time_at ts (hor (plan_of (after d)) (length (plan_of (after d)))))) (times_kept h e quiet) ∙ ap (λ (n : ℕ). is_some (executed h n)) number in
      past (executed h (count (plan_of h))) refl (sym same ∙ ended)
    where
      past : (o : Option ℤ) → executed h (count (plan_of h)) ≡ o → is_some (executed h (count (plan_of h))) ≡ true → ⊥
      past None is there = let f : false ≡ true = sym (ap is_some is) ∙ there in cc
      past (Some t) is there = let k = (executed_in m h run).within (count (plan_of h)) t is in omega (arith, k)

  -- a point that ends a run is the horizon's
  is_mark : (d : Deed) (x : PointId) → plan_of h ≢ [] → executes d ≡ Some x → hands_over d ≡ None → executed h x.0 ≡ None → is_over (phase_of h) ≡ false → has_ended (after d) ≡ true → x ≡ mark_of (plan_of h)
  is_mark d x some is no_plan free going ended = by_case (nat_eq (hor (plan_of h) (length (plan_of h))) x.0) refl
    where
      e : Entry
      e = record { by = by; deed = d }

      put_is : is_some (cond (nat_eq (hor (plan_of h) (length (plan_of h))) x.0) (Some (pos (now_of h))) (executed h (hor (plan_of h) (length (plan_of h))))) ≡ true
      put_is = sym (ap (λ (es : List Extension). is_some (executed (after d) (hor es (length es)))) (plan_kept h e no_plan) ∙ ap is_some (executed-put h e x (hor (plan_of h) (length (plan_of h))) is free)) ∙ ended

      by_case : (b : Bool) → nat_eq (hor (plan_of h) (length (plan_of h))) x.0 ≡ b → x ≡ mark_of (plan_of h)
      by_case true same = ap (λ (n : ℕ). record { 0 = n }) (sym (eqb-true _ _ same))
      by_case false other = absurd (let f : true ≡ false = sym (over_at_mark h some (rw other at put_is)) ∙ going in cc)

  -- no report is Done where no point is observed
  no_report : (x : PointId) → Replies m h (report x.0) done → ⊥
  no_report x lawful = by_case (watched m h x.0) refl _ (point_rest (moment_of m h) x.0 _ (event_reply m h (report x.0) lawful))
    where
      by_case : (b : Bool) → watched m h x.0 ≡ b → (P : Type 0) → RefusedIf (not b) not_observed done P → ⊥
      by_case true is P r = let f : true ≡ false = sym is ∙ unwatched x.0 in cc
      by_case false is P r = let f : done ≡ not_observed = r in cc

  last_fire : (d : Deed) (event : Event) (reply : Reply) → Replies m h event reply → IsLeftBy m d event reply → (hands_over d ≡ None → plan_of h ≢ []) → has_ended (after d) ≡ true → EndsByFiring (after d) (mark_of (plan_of (after d)))
  last_fire (Fire x) event reply lawful left some ended =
      let plan = plan_kept h (record { by = by; deed = Fire x }) refl in
      let same = is_mark (Fire x) x (some refl) refl refl (fresh m h (Fire x) x event reply lawful left refl) (still_going m h (Fire x) event reply lawful left) ended in
      record { before = h; by = by; plan = sym plan; last = ap (λ (y : PointId). after (Fire y)) (same ∙ ap mark_of (sym plan)) }
  last_fire (Report x) event reply lawful left some ended = absurd (no_report x (rw (left.0, left.1) at lawful))
  last_fire Tick event reply lawful left some ended = absurd (not_idle Tick (some refl) refl refl (still_going m h Tick event reply lawful left) ended)
  last_fire (Handover x n) event reply lawful left some ended = absurd (not_handed (Handover x n) x refl refl ended)
  last_fire (StaleDeed x b p q) event reply lawful left some ended = absurd (not_idle (StaleDeed x b p q) (some refl) refl refl (still_going m h (StaleDeed x b p q) event reply lawful left) ended)
  last_fire (Late b) event reply lawful left some ended = absurd (not_idle (Late b) (some refl) refl refl (still_going m h (Late b) event reply lawful left) ended)
  last_fire (Early b) event reply lawful left some ended = absurd (not_idle (Early b) (some refl) refl refl (still_going m h (Early b) event reply lawful left) ended)
  last_fire (Broken v) event reply lawful left some ended = absurd (not_idle (Broken v) (some refl) refl refl (still_going m h (Broken v) event reply lawful left) ended)

-- a flight that has ended
pub flight_ends : (m : Mission) (es : List Extension) (h : List Entry) → IsFlight m es h → es ≢ [] → HasNoDevices m → phase_of h ≡ Ended → EndsByFiring h (mark_of (plan_of h))
flight_ends m es h f some none is = let r = ending_of h not_empty in with_entry r.front r.last.by r.last.deed r.is
  where
    not_empty : h ≢ []
    not_empty e = let g : f.begins.first ∷ f.begins.others ≡ [] = sym f.begins.is ∙ e in cc

    planned : plan_of h ≢ []
    planned e = some (sym f.plan ∙ e)

    with_entry : (before : List Entry) (by : ℕ) (d : Deed) → h ≡ with_deed before by d → EndsByFiring h (mark_of (plan_of h))
    with_entry before by d whole =
        let e : Entry = record { by = by; deed = d } in
        let parts = EachAfter-push (MayAdd m) [] before e (subst (λ (l : List Entry). EachAfter (MayAdd m) [] l) whole f.run.entries) in
        let front : Run m before = record { mission = f.run.mission; entries = parts.0 } in
        let ended : has_ended (with_deed before by d) ≡ true = subst (λ (l : List Entry). has_ended l ≡ true) whole (ended_mark h planned is) in
        let before_planned : hands_over d ≡ None → plan_of before ≢ [] = λ no_plan empty. planned (ap plan_of whole ∙ plan_kept before e no_plan ∙ empty) in
        subst (λ (l : List Entry). EndsByFiring l (mark_of (plan_of l))) (sym whole) (last_fire m before by front (none_observed m none (plan_of before)) d parts.1.event parts.1.reply parts.1.answers.lawful parts.1.answers.leaves.1 before_planned ended)
