-- Which entry a turn of the executive leaves.
use Rattle.std.proofs.Common.{◌≡◌, ◌≢◌, ℕ, true, false, List, [], ◌∷◌, ◌++◌, Option, Some, None, refl, sym, ap, ◌∙◌, arith}
use Rattle.std.proofs.lemmas.Bool.Decides.{nat_tests}
use Rattle.std.specs.Prelude.{option_to_list, length, ◌<◌, nat_le}
use Rattle.hs_base.specs.declared.ids.PointId.{PointId}
use Rattle.hs_base.specs.declared.ids.SvId.{SvId}
use Rattle.hs_base.specs.declared.mission.Mission.{Mission}
use Rattle.hs_base.specs.declared.net.Bound.{Bound}
use Rattle.hs_machine.specs.declared.history.Deed.{Deed}
use Rattle.hs_machine.specs.declared.history.Deed.TheVariants.{Tick, Fire, Report, Handover, Stale as StaleDeed, Late, Early, Broken}
use Rattle.hs_machine.specs.declared.history.Entry.{Entry}
use Rattle.hs_machine.specs.declared.history.Phase.TheVariants.{Running}
use Rattle.hs_machine.specs.Machine.{Event, Reply, tick, fire, report, broken, handover, done, failed, IsAdded, IsLeftBy, Replies, Turn, leaves_deed}
use Rattle.hs_machine.specs.State.{phase_of}
use Rattle.exec_core.specs.Recorded.{Recorded, recording}
use Rattle.exec_core.specs.Replies.{reply_of}
use Rattle.exec_core.specs.declared.reply.Reply.{Reply as ExecReply}
use Rattle.exec_core.specs.declared.reply.Reply.TheVariants.{Done}
use Rattle.flight_laws.proofs.TurnLemmas.{turn_fired, turn_quiet, turn_ticked, fire_quiet}

-- no other reply is the machine's Done
pub done_only : (r : ExecReply) → reply_of r ≡ done → r ≡ Done
done_only Done e = refl
done_only _ e = absurd (cc)

-- two executives of one mission and history
pub same_parts : (old new : Recorded) → new.mission ≡ old.mission → new.history ≡ old.history → new ≡ old
same_parts old new mission history =
    ap (λ m. record { mission = m; history = new.history }) mission ∙ ap (λ (h : List Entry). record { mission = old.mission; history = h }) history

-- a reply that leaves a deed has left that one
turn_left : (m : Mission) (h : List Entry) (by : ℕ) (event : Event) (reply : Reply) (h2 : List Entry) (d : Deed) → Turn m h by event reply h2 → leaves_deed reply ≡ true → ((c : Deed) → IsLeftBy m c event reply → c ≡ d) → h2 ≡ h ++ (record { by = by; deed = d }) ∷ []
turn_left m h by event reply h2 d turn loud only = by_case turn.added turn.answers.leaves turn.after
  where
    by_case : (o : Option Entry) → IsAdded m by event reply o → h2 ≡ h ++ option_to_list o → h2 ≡ h ++ (record { by = by; deed = d }) ∷ []
    by_case None is after = absurd (let e : true ≡ false = sym loud ∙ is in cc)
    by_case (Some e) left after =
        let same : e ≡ record { by = by; deed = d } = ap (λ n. record { by = n; deed = e.deed }) left.0 ∙ ap (λ c. record { by = by; deed = c }) (only e.deed left.1) in
        after ∙ ap (λ (x : Entry). h ++ x ∷ []) same

module _ (m : Mission) where
  left_report : (x : PointId) (c : Deed) → IsLeftBy m c (report x.0) done → c ≡ Report x
  left_report x Tick left = absurd (let e : report x.0 ≡ tick = left.0 in cc)
  left_report x (Fire y) left = absurd (let e : report x.0 ≡ fire y.0 = left.0 in cc)
  left_report x (Report y) left = let e : report x.0 ≡ report y.0 = left.0 in let n : x.0 ≡ y.0 = cc in ap (λ (i : ℕ). Report (record { 0 = i })) (sym n)
  left_report x (Handover e n) left = absurd (let f : report x.0 ≡ handover m (left.0 ++ e ∷ []) = left.1 in cc)
  left_report x (StaleDeed e b p q) left = absurd (let f : report x.0 ≡ handover m (left.0 ++ e ∷ []) = left.1 in cc)
  left_report x (Late b) left = absurd (let e : report x.0 ≡ tick = left.0 in cc)
  left_report x (Early b) left = absurd (let e : done ≡ failed b = left.1 in cc)
  left_report x (Broken d) left = absurd (let e : report x.0 ≡ broken d.0 = left.0 in cc)

  left_broken : (v : SvId) (c : Deed) → IsLeftBy m c (broken v.0) done → c ≡ Broken v
  left_broken v Tick left = absurd (let e : broken v.0 ≡ tick = left.0 in cc)
  left_broken v (Fire y) left = absurd (let e : broken v.0 ≡ fire y.0 = left.0 in cc)
  left_broken v (Report y) left = absurd (let e : broken v.0 ≡ report y.0 = left.0 in cc)
  left_broken v (Handover e n) left = absurd (let f : broken v.0 ≡ handover m (left.0 ++ e ∷ []) = left.1 in cc)
  left_broken v (StaleDeed e b p q) left = absurd (let f : broken v.0 ≡ handover m (left.0 ++ e ∷ []) = left.1 in cc)
  left_broken v (Late b) left = absurd (let e : broken v.0 ≡ tick = left.0 in cc)
  left_broken v (Early b) left = absurd (let e : done ≡ failed b = left.1 in cc)
  left_broken v (Broken d) left = let e : broken v.0 ≡ broken d.0 = left.0 in let n : v.0 ≡ d.0 = cc in ap (λ (i : ℕ). Broken (record { 0 = i })) (sym n)

  left_late : (b : Bound) (c : Deed) → IsLeftBy m c tick (failed b) → c ≡ Late b
  left_late b Tick left = absurd (let e : failed b ≡ done = left.1 in cc)
  left_late b (Fire y) left = absurd (let e : tick ≡ fire y.0 = left.0 in cc)
  left_late b (Report y) left = absurd (let e : tick ≡ report y.0 = left.0 in cc)
  left_late b (Handover e n) left = absurd (let f : tick ≡ handover m (left.0 ++ e ∷ []) = left.1 in cc)
  left_late b (StaleDeed e c p q) left = absurd (let f : tick ≡ handover m (left.0 ++ e ∷ []) = left.1 in cc)
  left_late b (Late c) left = let e : failed b ≡ failed c = left.1 in let n : b ≡ c = cc in ap Late (sym n)
  left_late b (Early c) left = absurd (let e : tick ≡ report c.from.0 = left.0 in cc)
  left_late b (Broken d) left = absurd (let e : tick ≡ broken d.0 = left.0 in cc)

  left_early : (x : ℕ) (b : Bound) (c : Deed) → IsLeftBy m c (report x) (failed b) → c ≡ Early b
  left_early x b Tick left = absurd (let e : report x ≡ tick = left.0 in cc)
  left_early x b (Fire y) left = absurd (let e : report x ≡ fire y.0 = left.0 in cc)
  left_early x b (Report y) left = absurd (let e : failed b ≡ done = left.1 in cc)
  left_early x b (Handover e n) left = absurd (let f : report x ≡ handover m (left.0 ++ e ∷ []) = left.1 in cc)
  left_early x b (StaleDeed e c p q) left = absurd (let f : report x ≡ handover m (left.0 ++ e ∷ []) = left.1 in cc)
  left_early x b (Late c) left = absurd (let e : report x ≡ tick = left.0 in cc)
  left_early x b (Early c) left = let e : failed b ≡ failed c = left.1 in let n : b ≡ c = cc in ap Early (sym n)
  left_early x b (Broken d) left = absurd (let e : report x ≡ broken d.0 = left.0 in cc)

module _ (old new : Recorded) (by : ℕ) (reply : ExecReply) (mission : new.mission ≡ old.mission) where
  recorded : (d : Deed) → new.history ≡ old.history ++ (record { by = by; deed = d }) ∷ [] → new ≡ recording old by d
  recorded d history = ap (λ m. record { mission = m; history = new.history }) mission ∙ ap (λ (h : List Entry). record { mission = old.mission; history = h }) history

  -- a fire that is Done
  pub fired_is : (x : PointId) → Turn old.mission old.history by (fire x.0) (reply_of reply) new.history → reply ≡ Done → new ≡ recording old by (Fire x)
  fired_is x turn is = recorded (Fire x) (turn_fired old.mission old.history by x new.history (rw is at turn))

  -- one that isn't changes nothing
  pub unfired : (x : ℕ) → Turn old.mission old.history by (fire x) (reply_of reply) new.history → reply ≢ Done → new ≡ old
  unfired x turn other =
      same_parts old new mission (turn_quiet old.mission old.history by (fire x) (reply_of reply) new.history turn (fire_quiet old.mission old.history x (reply_of reply) (λ e. other (done_only reply e)) turn.answers.lawful).silent)

  -- and Done would not have been lawful
  pub unlawful : (x : ℕ) → Turn old.mission old.history by (fire x) (reply_of reply) new.history → reply ≢ Done → Replies old.mission old.history (fire x) done → ⊥
  unlawful x turn other = (fire_quiet old.mission old.history x (reply_of reply) (λ e. other (done_only reply e)) turn.answers.lawful).not

  -- a tick that is Done, and one that fails
  pub ticked_is : Turn old.mission old.history by tick (reply_of reply) new.history → reply ≡ Done → new ≡ recording old by Tick
  ticked_is turn is = recorded Tick (turn_ticked old.mission old.history by new.history (rw is at turn))

  pub late_is : (b : Bound) → Turn old.mission old.history by tick (reply_of reply) new.history → reply_of reply ≡ failed b → new ≡ recording old by (Late b)
  late_is b turn is = recorded (Late b) (turn_left old.mission old.history by tick (failed b) new.history (Late b) (rw is at turn) refl (left_late old.mission b))

  -- a report that is Done, and one that fails
  pub reported_is : (x : PointId) → Turn old.mission old.history by (report x.0) (reply_of reply) new.history → reply ≡ Done → new ≡ recording old by (Report x)
  reported_is x turn is = recorded (Report x) (turn_left old.mission old.history by (report x.0) done new.history (Report x) (rw is at turn) refl (left_report old.mission x))

  pub early_is : (x : ℕ) (b : Bound) → Turn old.mission old.history by (report x) (reply_of reply) new.history → reply_of reply ≡ failed b → new ≡ recording old by (Early b)
  early_is x b turn is = recorded (Early b) (turn_left old.mission old.history by (report x) (failed b) new.history (Early b) (rw is at turn) refl (left_early old.mission x b))

  -- the failure of a device of the mission, in a running state
  pub broken_is : (v : SvId) → v.0 < length old.mission.vars → phase_of old.history ≡ Running → Turn old.mission old.history by (broken v.0) (reply_of reply) new.history → new ≡ recording old by (Broken v)
  broken_is v there running turn =
      let is_done = answered (reply_of reply) turn.answers.lawful in
      recorded (Broken v) (turn_left old.mission old.history by (broken v.0) done new.history (Broken v) (rw is_done at turn) refl (left_broken old.mission v))
    where
      below : nat_le (length old.mission.vars) v.0 ≡ false
      below = grind (arith, nat_tests)

      answered : (r : Reply) → Replies old.mission old.history (broken v.0) r → r ≡ done
      answered r lawful = rw (running, below) at lawful
