-- A run that has ended fired its newest horizon's point last.
use Rattle.std.proofs.Common.{◌≡◌, ◌≢◌, ℕ, ◌+◌, Bool, true, false, cond, not, nat_eq, List, [], ◌∷◌, ◌++◌, length, length-append, Option, Some, None, is_some, refl, sym, ap, ◌∙◌, subst, arith, pos}
use Rattle.std.proofs.lemmas.Bool.{eqb-true}
use Rattle.std.specs.Prelude.{ℤ}
use Rattle.hs_base.specs.declared.ids.PointId.{PointId}
use Rattle.hs_base.specs.declared.mission.Mission.{Mission}
use Rattle.hs_base.specs.declared.plan.Extension.{Extension}
use Rattle.hs_base.specs.Fits.{time_at}
use Rattle.hs_base.specs.Points.{Point, count, device_ends, ending, hor, horizon, origin, points_of, same_point}
use Rattle.hs_base.specs.Walks.{EachAfter}
use Rattle.hs_machine.specs.declared.history.Deed.{Deed}
use Rattle.hs_machine.specs.declared.history.Deed.TheVariants.{Tick, Fire, Report, Handover, Stale as StaleDeed, Late, Early, Broken}
use Rattle.hs_machine.specs.declared.history.Entry.{Entry}
use Rattle.hs_machine.specs.declared.history.Phase.TheVariants.{Waiting, Running, Failed, Ended}
use Rattle.hs_machine.specs.Machine.{Event, Reply, report, done, over, not_observed, is_over, leaves_deed, RefusedIf, Replies, IsLeftBy}
use Rattle.hs_machine.specs.Run.{MayAdd, Run}
use Rattle.hs_machine.specs.State.{now_of, plan_of, executes, executed, hands_over, has_failed, has_ended, moment_of, phase_of, watched}
use Rattle.base_laws.proofs.ListLemmas.{EachAfter-push}
use Rattle.base_laws.proofs.PointLemmas.{horizon_number}
use Rattle.run_laws.proofs.RunLemmas.{event_reply, point_rest, fresh}
use Rattle.run_laws.proofs.StateLemmas.{plan_kept, plan_handed, times_kept, executed-put}
use Rattle.search_tree.proofs.NameLemmas.{at_place_of}
use Rattle.exec_laws.proofs.HorizonLemmas.{ending_of, mark_below}
use Rattle.exec_laws.proofs.ReplyLemmas.{not_over}
use Rattle.exec_laws.proofs.RunningLemmas.{executed_in}
use Rattle.exec_laws.proofs.StepLemmas.{phase_failed, phase_flying, phase_waiting}
use Rattle.flight_laws.specs.Flights.{mark_of}
use Rattle.flight_laws.proofs.TurnLemmas.{left_loud}
use Rattle.simulation_laws.specs.Ending.{EndsWith}

-- a deed is left in a state that isn't over
still_going : (m : Mission) (h : List Entry) (d : Deed) (event : Event) (reply : Reply) → Replies m h event reply → IsLeftBy m d event reply → is_over (phase_of h) ≡ false
still_going m h d event reply lawful left =
    not_over m h event reply lawful (λ (e : reply ≡ over). let f : true ≡ false = sym (left_loud m d event reply left) ∙ ap leaves_deed e in cc)

-- a state with a plan whose horizon's point is executed is over
over_at_mark : (h : List Entry) → plan_of h ≢ [] → has_ended h ≡ true → is_over (phase_of h) ≡ true
over_at_mark h some ended = by_case (has_failed h) refl
  where
    by_case : (b : Bool) → has_failed h ≡ b → is_over (phase_of h) ≡ true
    by_case true fails = ap is_over (phase_failed h fails)
    by_case false sound = ap is_over (phase_flying h true sound some ended)

-- an ended state has a plan, and its horizon's point is executed
record HasEnded (h : List Entry) : Type 0 where
  some : plan_of h ≢ []
  over : has_ended h ≡ true

has_ended_so : (h : List Entry) → phase_of h ≡ Ended → HasEnded h
has_ended_so h is = by_parts (has_failed h) refl (plan_of h) refl (has_ended h) refl is
  where
    by_parts : (b : Bool) → has_failed h ≡ b → (es : List Extension) → plan_of h ≡ es → (c : Bool) → has_ended h ≡ c → phase_of h ≡ Ended → HasEnded h
    by_parts true fail es plan c at is = absurd (let e : Failed ≡ Ended = sym (phase_failed h fail) ∙ is in cc)
    by_parts false fail [] plan c at is = absurd (let e : Waiting ≡ Ended = sym (phase_waiting h fail plan) ∙ is in cc)
    by_parts false fail (x ∷ es) plan false at is = absurd (let e : Running ≡ Ended = sym (phase_flying h false fail (λ (e : plan_of h ≡ []). let f : x ∷ es ≡ [] = sym plan ∙ e in cc) at) ∙ is in cc)
    by_parts false fail (x ∷ es) plan true at is = record { some = λ (e : plan_of h ≡ []). let f : x ∷ es ≡ [] = sym plan ∙ e in cc; over = at }

-- no device tells a horizon's point
named_horizon_is : (k : ℕ) (q : Point) → same_point (horizon k) q ≡ true → (m : Mission) (es : List Extension) → device_ends m es (Some q) ≡ false
named_horizon_is k origin same m es = refl
named_horizon_is k (horizon j) same m es = refl
named_horizon_is k (ending v i) same m es = absurd (cc)

mark_unwatched : (m : Mission) (h : List Entry) → plan_of h ≢ [] → watched m h (hor (plan_of h) (length (plan_of h))) ≡ false
mark_unwatched m h some =
    let at = at_place_of (horizon (length (plan_of h))) (points_of (plan_of h)) (mark_below (plan_of h) some) in
    ap (device_ends m (plan_of h)) at.1 ∙ named_horizon_is (length (plan_of h)) at.0 at.2 m (plan_of h)

module _ (m : Mission) (h : List Entry) (by : ℕ) (run : Run m h) where
  abbrev after : Deed → List Entry
  after d = h ++ (record { by = by; deed = d }) ∷ []

  -- what executes no point and hands nothing over doesn't end a run
  not_idle : (d : Deed) → plan_of h ≢ [] → executes d ≡ None → hands_over d ≡ None → is_over (phase_of h) ≡ false → has_ended (after d) ≡ true → ⊥
  not_idle d some quiet no_plan going ended =
      let e : Entry = record { by = by; deed = d } in
      let same : has_ended (after d) ≡ has_ended h = ap (λ ts. is_some (time_at ts (hor (plan_of (after d)) (length (plan_of (after d)))))) (times_kept h e quiet) ∙ ap (λ (es : List Extension). is_some (executed h (hor es (length es)))) (plan_kept h e no_plan) in
      let f : true ≡ false = sym (over_at_mark h some (sym same ∙ ended)) ∙ going in cc

  -- a handover doesn't either: its horizon's point is new
  not_handed : (d : Deed) (x : Extension) → executes d ≡ None → hands_over d ≡ Some x → has_ended (after d) ≡ true → ⊥
  not_handed d x quiet hands ended =
      let e : Entry = record { by = by; deed = d } in
      let size : length (plan_of h ++ x ∷ []) ≡ length (plan_of h) + 1 = length-append (plan_of h) (x ∷ []) in
      let number : hor (plan_of (after d)) (length (plan_of (after d))) ≡ count (plan_of h) = ap (λ (es : List Extension). hor es (length es)) (plan_handed h e x hands) ∙ ap (hor (plan_of h ++ x ∷ [])) size ∙ horizon_number (plan_of h) x in
      let same : has_ended (after d) ≡ is_some (executed h (count (plan_of h))) = ap (λ ts. is_some (time_at ts (hor (plan_of (after d)) (length (plan_of (after d)))))) (times_kept h e quiet) ∙ ap (λ (n : ℕ). is_some (executed h n)) number in
      past (executed h (count (plan_of h))) refl (sym same ∙ ended)
    where
      past : (o : Option ℤ) → executed h (count (plan_of h)) ≡ o → is_some (executed h (count (plan_of h))) ≡ true → ⊥
      past None is there = let f : false ≡ true = sym (ap is_some is) ∙ there in cc
      past (Some t) is there = let k = (executed_in m h run).within (count (plan_of h)) t is in omega (arith, k)

  -- a point that ends a run is the horizon's
  is_mark : (d : Deed) (x : PointId) → plan_of h ≢ [] → executes d ≡ Some x → hands_over d ≡ None → executed h x.0 ≡ None → is_over (phase_of h) ≡ false → has_ended (after d) ≡ true → x ≡ mark_of (plan_of h)
  is_mark d x some is no_plan free going ended = by_case (nat_eq (hor (plan_of h) (length (plan_of h))) x.0) refl
    where
      e : Entry
      e = record { by = by; deed = d }

      put_is : is_some (cond (nat_eq (hor (plan_of h) (length (plan_of h))) x.0) (Some (pos (now_of h))) (executed h (hor (plan_of h) (length (plan_of h))))) ≡ true
      put_is = sym (ap (λ (es : List Extension). is_some (executed (after d) (hor es (length es)))) (plan_kept h e no_plan) ∙ ap is_some (executed-put h e x (hor (plan_of h) (length (plan_of h))) is free)) ∙ ended

      by_case : (b : Bool) → nat_eq (hor (plan_of h) (length (plan_of h))) x.0 ≡ b → x ≡ mark_of (plan_of h)
      by_case true same = ap (λ (n : ℕ). record { 0 = n }) (sym (eqb-true _ _ same))
      by_case false other = absurd (let f : true ≡ false = sym (over_at_mark h some (rw other at put_is)) ∙ going in cc)

  -- so it isn't reported
  no_report : plan_of h ≢ [] → Replies m h (report (mark_of (plan_of h)).0) done → ⊥
  no_report some lawful = by_case (watched m h (mark_of (plan_of h)).0) refl _ (point_rest (moment_of m h) (mark_of (plan_of h)).0 _ (event_reply m h (report (mark_of (plan_of h)).0) lawful))
    where
      by_case : (b : Bool) → watched m h (mark_of (plan_of h)).0 ≡ b → (P : Type 0) → RefusedIf (not b) not_observed done P → ⊥
      by_case true is P r = let f : true ≡ false = sym is ∙ mark_unwatched m h some in cc
      by_case false is P r = let f : done ≡ not_observed = r in cc

  last_fire : (d : Deed) (event : Event) (reply : Reply) → Replies m h event reply → IsLeftBy m d event reply → (hands_over d ≡ None → plan_of h ≢ []) → has_ended (after d) ≡ true → EndsWith (after d) (Fire (mark_of (plan_of (after d))))
  last_fire (Fire x) event reply lawful left some ended =
      let plan = plan_kept h (record { by = by; deed = Fire x }) refl in
      let same = is_mark (Fire x) x (some refl) refl refl (fresh m h (Fire x) x event reply lawful left refl) (still_going m h (Fire x) event reply lawful left) ended in
      record { before = h; by = by; is = ap (λ (y : PointId). after (Fire y)) (same ∙ ap mark_of (sym plan)) }
  last_fire (Report x) event reply lawful left some ended =
      let same = is_mark (Report x) x (some refl) refl refl (fresh m h (Report x) x event reply lawful left refl) (still_going m h (Report x) event reply lawful left) ended in
      absurd (no_report (some refl) (subst (λ (y : PointId). Replies m h (report y.0) done) same (rw (left.0, left.1) at lawful)))
  last_fire Tick event reply lawful left some ended = absurd (not_idle Tick (some refl) refl refl (still_going m h Tick event reply lawful left) ended)
  last_fire (Handover x n) event reply lawful left some ended = absurd (not_handed (Handover x n) x refl refl ended)
  last_fire (StaleDeed x b p q) event reply lawful left some ended = absurd (not_idle (StaleDeed x b p q) (some refl) refl refl (still_going m h (StaleDeed x b p q) event reply lawful left) ended)
  last_fire (Late b) event reply lawful left some ended = absurd (not_idle (Late b) (some refl) refl refl (still_going m h (Late b) event reply lawful left) ended)
  last_fire (Early b) event reply lawful left some ended = absurd (not_idle (Early b) (some refl) refl refl (still_going m h (Early b) event reply lawful left) ended)
  last_fire (Broken v) event reply lawful left some ended = absurd (not_idle (Broken v) (some refl) refl refl (still_going m h (Broken v) event reply lawful left) ended)

-- a run that has ended
pub fires_last : (m : Mission) (h : List Entry) → Run m h → phase_of h ≡ Ended → EndsWith h (Fire (mark_of (plan_of h)))
fires_last m h run is = let r = ending_of h not_empty in with_entry r.front r.last.by r.last.deed r.is
  where
    planned : plan_of h ≢ []
    planned = (has_ended_so h is).some

    not_empty : h ≢ []
    not_empty e = planned (ap plan_of e)

    with_entry : (before : List Entry) (by : ℕ) (d : Deed) → h ≡ before ++ (record { by = by; deed = d }) ∷ [] → EndsWith h (Fire (mark_of (plan_of h)))
    with_entry before by d whole =
        let e : Entry = record { by = by; deed = d } in
        let parts = EachAfter-push (MayAdd m) [] before e (subst (λ (l : List Entry). EachAfter (MayAdd m) [] l) whole run.entries) in
        let front : Run m before = record { mission = run.mission; entries = parts.0 } in
        let ended : has_ended (before ++ e ∷ []) ≡ true = subst (λ (l : List Entry). has_ended l ≡ true) whole (has_ended_so h is).over in
        let before_planned : hands_over d ≡ None → plan_of before ≢ [] = λ no_plan empty. planned (ap plan_of whole ∙ plan_kept before e no_plan ∙ empty) in
        subst (λ (l : List Entry). EndsWith l (Fire (mark_of (plan_of l)))) (sym whole) (last_fire m before by front d parts.1.event parts.1.reply parts.1.answers.lawful parts.1.answers.leaves.1 before_planned ended)
