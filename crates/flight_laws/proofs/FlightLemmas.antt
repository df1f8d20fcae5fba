-- A flight goes on, stays eager, and ends by firing its horizon's point.
use Rattle.std.proofs.Common.{◌≡◌, ◌≢◌, ℕ, true, false, List, [], ◌∷◌, ◌++◌, Option, Some, None, refl, sym, ap, ◌∙◌, subst}
use Rattle.hs_base.specs.declared.ids.PointId.{PointId}
use Rattle.hs_base.specs.declared.mission.Mission.{Mission}
use Rattle.hs_base.specs.declared.plan.Extension.{Extension}
use Rattle.hs_machine.specs.declared.history.Entry.{Entry}
use Rattle.hs_machine.specs.declared.history.Deed.{Deed}
use Rattle.hs_machine.specs.declared.history.Deed.TheVariants.{Tick, Fire, Report, Handover, Stale as StaleDeed, Late, Early, Broken}
use Rattle.std.specs.Prelude.{option_to_list}
use Rattle.hs_base.specs.Missions.{IsMission}
use Rattle.hs_base.specs.Checked.{Checked}
use Rattle.hs_machine.specs.Run.{Run}
use Rattle.hs_machine.specs.State.{plan_of, is_tick, is_failure, hands_over}
use Rattle.hs_machine.specs.Eager.{NoneMayFire}
use Rattle.hs_machine.specs.Machine.{Event, tick, fire, report, broken, handover, done, stale, base_of, IsNext, IsLeftBy, IsAdded, Turn}
use Rattle.base_laws.proofs.ListLemmas.{EachAfter-more}
use Rattle.run_laws.proofs.StateLemmas.{plan_kept}
use Rattle.run_laws.proofs.RunLemmas.{event_reply, offered_base}
use Rattle.run_laws.proofs.CheckedLemmas.{run_checked}
use Rattle.exec_laws.proofs.StepLemmas.{failed_more}
use Rattle.flight_laws.specs.Flights.{BeginsByHandover, IsFlight}
use Rattle.flight_laws.proofs.TurnLemmas.{with_deed, turn_run, turn_fired, turn_ticked}

-- the plan of a flight is checked
pub flight_checked : (m : Mission) (es : List Extension) (h : List Entry) → IsFlight m es h → es ≢ [] → Checked m es
flight_checked m es h f some = subst (Checked m) f.plan (run_checked m h f.run (λ (e : plan_of h ≡ []). some (sym f.plan ∙ e)))

-- a further entry keeps the beginning
begins_more : (h : List Entry) (e : Entry) → BeginsByHandover h → BeginsByHandover (h ++ e ∷ [])
begins_more h e b = record { first = b.first; others = b.others ++ e ∷ []; extension = b.extension; hands = b.hands; is = ap (λ (l : List Entry). l ++ e ∷ []) b.is }

-- an entry that neither fails nor hands over keeps a flight
flight_more : (m : Mission) (es : List Extension) (h : List Entry) (by : ℕ) (d : Deed) (event : Event) → IsFlight m es h → Turn m h by event done (with_deed h by d) → is_failure d ≡ false → hands_over d ≡ None → (is_tick d ≡ true → NoneMayFire m h) → IsFlight m es (with_deed h by d)
flight_more m es h by d event f turn sound no_plan still =
    let e : Entry = record { by = by; deed = d } in
    record {
      run = turn_run m h by event done (with_deed h by d) f.run turn;
      plan = plan_kept h e no_plan ∙ f.plan;
      sound = failed_more h e ∙ rw f.sound sound;
      eager = EachAfter-more (λ before x. is_tick x.deed ≡ true → NoneMayFire m before) [] h e f.eager still;
      begins = begins_more h e f.begins;
    }

-- a fire keeps a flight
pub flight_fired : (m : Mission) (es : List Extension) (h : List Entry) (by : ℕ) (x : PointId) (h2 : List Entry) → IsFlight m es h → Turn m h by (fire x.0) done h2 → IsFlight m es h2
flight_fired m es h by x h2 f turn =
    let is = turn_fired m h by x h2 turn in
    subst (IsFlight m es) (sym is) (flight_more m es h by (Fire x) (fire x.0) f (subst (Turn m h by (fire x.0) done) is turn) refl refl (λ (e : false ≡ true). absurd (cc)))

-- and a tick before which no point may be fired
pub flight_ticked : (m : Mission) (es : List Extension) (h : List Entry) (by : ℕ) (h2 : List Entry) → IsFlight m es h → NoneMayFire m h → Turn m h by tick done h2 → IsFlight m es h2
flight_ticked m es h by h2 f still turn =
    let is = turn_ticked m h by h2 turn in
    subst (IsFlight m es) (sym is) (flight_more m es h by Tick tick f (subst (Turn m h by tick done) is turn) refl refl (λ e. still))

-- the first handover begins a flight
pub flight_handed : (m : Mission) (es : List Extension) (by : ℕ) (n : Mission) (h2 : List Entry) → IsMission m → Turn m [] by (handover n es) done h2 → IsFlight m es h2
flight_handed m es by n h2 mission turn = by_case turn.added turn.answers.leaves turn.after
  where
    event : Event
    event = handover n es

    none : Run m []
    none = record { mission = mission; entries = tt }

    next : IsNext [] es
    next = (event_reply m [] event turn.answers.lawful).1

    by_deed : (i : ℕ) (d : Deed) → IsLeftBy m d event done → Run m (record { by = i; deed = d } ∷ []) → IsFlight m es (record { by = i; deed = d } ∷ [])
    by_deed i (Handover e net) left run =
        let named : handover n es ≡ handover m (left.0 ++ e ∷ []) = left.1 in
        let parts : es ≡ left.0 ++ e ∷ [] = cc in
        let base : left.0 ≡ [] = offered_base left.0 [] e (ap base_of (sym parts) ∙ next.1) in
        let one : es ≡ e ∷ [] = parts ∙ ap (λ (l : List Extension). l ++ e ∷ []) base in
        record {
          run = run;
          plan = sym one;
          sound = refl;
          eager = ((λ (t : false ≡ true). absurd (cc)), tt);
          begins = record { first = record { by = i; deed = Handover e net }; others = []; extension = e; hands = refl; is = refl };
        }
    by_deed i Tick left run = absurd (let f : handover n es ≡ tick = left.0 in cc)
    by_deed i (Fire x) left run = absurd (let f : handover n es ≡ fire x.0 = left.0 in cc)
    by_deed i (Report x) left run = absurd (let f : handover n es ≡ report x.0 = left.0 in cc)
    by_deed i (StaleDeed e b p q) left run = absurd (let f : done ≡ stale b p q = left.2 in cc)
    by_deed i (Late b) left run = absurd (let f : handover n es ≡ tick = left.0 in cc)
    by_deed i (Early b) left run = absurd (let f : handover n es ≡ report b.from.0 = left.0 in cc)
    by_deed i (Broken d) left run = absurd (let f : handover n es ≡ broken d.0 = left.0 in cc)

    by_case : (o : Option Entry) → IsAdded m by event done o → h2 ≡ [] ++ option_to_list o → IsFlight m es h2
    by_case None is after = absurd (let f : true ≡ false = is in cc)
    by_case (Some e) left after = subst (IsFlight m es) (sym after) (by_deed e.by e.deed left.1 (subst (Run m) after (turn_run m [] by event done h2 none turn)))
