-- What the flight's dispatch decides is lawful for the executive's state.
use Rattle.std.proofs.Common.{◌≡◌, ℕ, ◌<◌, true, false, Bool, List, length, Option, Some, None, refl, sym, ap, ◌∙◌, subst, arith, is_some}
use Rattle.std.specs.Prelude.{ℤ, not, vec_capacity, MatchOption, ◌&&◌, ⊤}
use Rattle.hs_base.specs.declared.mission.Mission.{Mission}
use Rattle.hs_base.specs.declared.net.Bound.{Bound}
use Rattle.hs_base.specs.declared.plan.Extension.{Extension}
use Rattle.hs_base.specs.declared.ids.PointId.{PointId}
use Rattle.hs_machine.specs.declared.history.Deed.{Deed}
use Rattle.hs_machine.specs.declared.history.Deed.TheVariants.{Tick}
use Rattle.hs_machine.specs.declared.history.Entry.{Entry}
use Rattle.hs_machine.specs.declared.history.Phase.TheVariants.{Running}
use Rattle.hs_base.specs.Moments.{MayFire, MayGoOn}
use Rattle.hs_machine.specs.State.{executed, watched, moment_of, executes, is_failure, phase_of}
use Rattle.hs_machine.specs.Machine.{Event, Reply, Replies, EventReply, TickReply, FireReply, ReportReply, ToldReply, RefusedIf, IsLeftBy, Turn, tick, fire, report, done, failed, over, no_net, no_point, not_observed, already, is_over, handover, memory, is_waiting}
use Rattle.hs_machine.specs.Run.{MayAdd}
use Rattle.dispatcher.specs.State.{IsOpen, time_in, moment}
use Rattle.run_laws.proofs.RunLemmas.{event_reply, otherwise}
use Rattle.hs_base.specs.Moments.{AreAlike}
use Rattle.exec_laws.proofs.FollowLemmas.{alike}
use Rattle.exec_laws.proofs.SameLemmas.{turned, tick_reply, fire_reply, report_reply, may_go_on, may_fire}
use Rattle.exec_laws.proofs.StepLemmas.{running, replies_running, may_add, turn_added}
use Rattle.exec_laws.proofs.HorizonLemmas.{none_of}
use Rattle.exec_laws.proofs.ReplyLemmas.{MayExecute, MayFail, may_execute, may_fail, done_running}
use Rattle.exec_core.specs.Recorded.{Recorded, MayRecord, recording}
use Rattle.exec_core.specs.Kept.{IsKept}
use Rattle.exec_core.specs.declared.flight.Flight.{Flight}
use Rattle.exec_core.specs.declared.exec.Exec.TheInside.{Inside}
use Rattle.exec_core.proofs.KeptLemmas.{flying, mark_in, no_ground, room_left}

-- what contracts see of the fields
abbrev pub seen : Inside → Recorded
seen d = record { mission = d.mission; history = d.history.items }

module _ (d : Inside) (k : IsKept d) where
  pub running_there : (v : Recorded) → seen d ≡ v → phase_of v.history ≡ Running → phase_of d.history.items ≡ Running
  running_there v is run = ap (λ (r : Recorded). phase_of r.history) is ∙ run

  -- without a flight nothing runs
  pub not_running : (v : Recorded) → seen d ≡ v → d.live ≡ None → phase_of v.history ≡ Running → ⊥
  not_running v is none run = no_ground d k none (running_there v is run)

  module _ (f : Flight) (at : d.live ≡ Some f) where
    -- the flight's moment is like that of the history
    pub like : AreAlike (moment f.dispatch) (moment_of d.mission d.history.items)
    like = alike (moment_of d.mission d.history.items) f.dispatch (flying d k f at).follows

    -- the replies to the events that ask for a plan
    pub tick_lawful : (v : Recorded) (r : Reply) → seen d ≡ v → phase_of v.history ≡ Running → TickReply (moment f.dispatch) r → Replies v.mission v.history tick r
    tick_lawful v r is run dec = subst (λ (x : Recorded). Replies x.mission x.history tick r) is (replies_running d.mission d.history.items tick r (running_there v is run) (tick_reply (moment f.dispatch) (moment_of d.mission d.history.items) like r dec))

    pub fire_lawful : (v : Recorded) (x : ℕ) (r : Reply) → seen d ≡ v → phase_of v.history ≡ Running → FireReply (moment f.dispatch) x r → Replies v.mission v.history (fire x) r
    fire_lawful v x r is run dec = subst (λ (y : Recorded). Replies y.mission y.history (fire x) r) is (replies_running d.mission d.history.items (fire x) r (running_there v is run) (fire_reply (moment f.dispatch) (moment_of d.mission d.history.items) like x r dec))

    pub report_lawful : (v : Recorded) (x : ℕ) (r : Reply) → seen d ≡ v → phase_of v.history ≡ Running → ReportReply (moment f.dispatch) x r → Replies v.mission v.history (report x) r
    report_lawful v x r is run dec = subst (λ (y : Recorded). Replies y.mission y.history (report x) r) is (replies_running d.mission d.history.items (report x) r (running_there v is run) (report_reply (moment f.dispatch) (moment_of d.mission d.history.items) like x r dec))

  -- a tick that is Done
  module _ (v : Recorded) (is : seen d ≡ v) (lawful : Replies v.mission v.history tick done) where
    pub tick_here : Replies d.mission d.history.items tick done
    tick_here = subst (λ (x : Recorded). Replies x.mission x.history tick done) (sym is) lawful

    pub tick_runs : phase_of d.history.items ≡ Running
    tick_runs = done_running d.mission d.history.items tick tick_here refl

    pub tick_room : length d.history.items < vec_capacity d.history
    tick_room = room_left d k (ap is_over tick_runs)

    pub tick_adds : (by : ℕ) → MayAdd d.mission d.history.items (record { by = by; deed = Tick })
    tick_adds by = may_add d.mission d.history.items by tick done Tick tick_here (refl, refl)

    pub tick_open : (f : Flight) → d.live ≡ Some f → IsOpen f.dispatch f.mark.0
    tick_open f at =
        let fl = flying d k f at in
        record { below = mark_in d k f at; none = none_of (time_in f.dispatch f.mark.0) (ap (λ (t : ℕ → Option ℤ). is_some (t f.mark.0)) fl.follows.times ∙ ap (λ x. is_some (executed d.history.items x)) fl.mark ∙ (running d.history.items tick_runs).open_mark) }

    pub tick_goes : (f : Flight) → d.live ≡ Some f → MayGoOn (moment f.dispatch)
    tick_goes f at = may_go_on (moment_of d.mission d.history.items) (moment f.dispatch) (turned (moment f.dispatch) (moment_of d.mission d.history.items) (like f at)) (event_reply d.mission d.history.items tick tick_here)

    pub tick_flies : d.live ≡ None → ⊥
    tick_flies none = no_ground d k none tick_runs

  -- an entry that the machine may leave
  module _ (v : Recorded) (is : seen d ≡ v) (deed : Deed) (may : MayRecord v deed) where
    pub record_here : MayRecord (seen d) deed
    record_here = subst (λ (x : Recorded). MayRecord x deed) (sym is) may

    pub record_adds : (by : ℕ) → MayAdd d.mission d.history.items (record { by = by; deed = deed })
    record_adds by = may_add d.mission d.history.items by record_here.event record_here.reply deed record_here.lawful record_here.left

    -- a point
    module _ (x : PointId) (ex : executes deed ≡ Some x) where
      pub point_may : MayExecute d.mission d.history.items deed x.0
      point_may = may_execute d.mission d.history.items deed x record_here.event record_here.reply record_here.lawful record_here.left ex

      pub point_room : length d.history.items < vec_capacity d.history
      point_room = room_left d k (ap is_over point_may.running)

      pub point_flies : d.live ≡ None → ⊥
      point_flies none = no_ground d k none point_may.running

      pub point_open : (f : Flight) → d.live ≡ Some f → IsOpen f.dispatch x.0
      point_open f at =
          let fl = flying d k f at in
          record { below = omega (arith, point_may.below, fl.follows.points); none = ap (λ (t : ℕ → Option ℤ). t x.0) fl.follows.times ∙ point_may.none }

      pub point_fires : (f : Flight) → d.live ≡ Some f → MayFire (moment f.dispatch) x.0
      point_fires f at = may_fire (moment_of d.mission d.history.items) (moment f.dispatch) (turned (moment f.dispatch) (moment_of d.mission d.history.items) (like f at)) x.0 point_may.may

    -- a failure
    module _ (fails : is_failure deed ≡ true) where
      pub fail_may : MayFail d.mission d.history.items deed
      fail_may = may_fail d.mission d.history.items deed record_here.event record_here.reply record_here.lawful record_here.left fails

      pub fail_room : length d.history.items < vec_capacity d.history
      fail_room = room_left d k fail_may.going

-- what a reply lets the machine leave
pub may_leave : (v w : Recorded) (event : Event) (reply : Reply) (deed : Deed) → w ≡ v → Replies v.mission v.history event reply → IsLeftBy v.mission deed event reply → MayRecord w deed
may_leave v w event reply deed same lawful left = subst (λ (x : Recorded). MayRecord x deed) (sym same) (record { event = event; reply = reply; lawful = lawful; left = left })

-- a reply with the entry that it leaves
pub turn_by : (v w u : Recorded) (by : ℕ) (event : Event) (reply : Reply) (deed : Deed) → w ≡ v → Replies v.mission v.history event reply → IsLeftBy v.mission deed event reply → u ≡ recording w by deed → Turn v.mission v.history by event reply u.history
turn_by v w u by event reply deed same lawful left is =
    subst (λ (h : List Entry). Turn v.mission v.history by event reply h) (sym (ap (λ (r : Recorded). r.history) (is ∙ ap (λ (x : Recorded). recording x by deed) same))) (turn_added v.mission v.history by event reply deed lawful left)

-- an early bound is one from the reported point
pub early_from : (m : Mission) (h : List Entry) (x : ℕ) (b : Bound) → Replies m h (report x) (failed b) → b.from.0 ≡ x
early_from m h x b lawful =
    let r : EventReply m h (report x) (failed b) = otherwise _ _ _ (otherwise _ _ _ lawful (λ (e : failed b ≡ over). cc)) (λ (e : failed b ≡ no_net). cc) in
    inside (executed h x) (otherwise _ _ _ r (λ (e : failed b ≡ no_point). cc))
  where
    inside : (o : Option ℤ) → MatchOption o (RefusedIf (not (watched m h x)) not_observed (failed b) (ToldReply (moment_of m h) x (failed b))) (λ t. failed b ≡ already t) → b.from.0 ≡ x
    inside None r = let f : ToldReply (moment_of m h) x (failed b) = otherwise _ _ _ r (λ (e : failed b ≡ not_observed). cc) in ap (λ (c : Bound). c.from.0) f.1.1
    inside (Some t) r = absurd (cc)

-- want of memory may be answered to a handover in every run that goes on
pub memory_lawful : (m : Mission) (h : List Entry) (m2 : Mission) (es : List Extension) → is_over (phase_of h) ≡ false → Replies m h (handover m2 es) memory
memory_lawful m h m2 es going = rw going (whether_waiting (is_waiting (phase_of h)))
  where
    whether_waiting : (waits : Bool) → RefusedIf (waits && false) no_net memory ⊤
    whether_waiting true = tt
    whether_waiting false = tt
