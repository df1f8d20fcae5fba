-- What a lawful reply tells of the state, and which replies leave no entry.
use Rattle.std.proofs.Common.{◌≡◌, ◌≢◌, ℕ, ◌<◌, Bool, true, false, not, ◌&&◌, nat_le, List, Some, None, refl, sym, ◌∙◌, subst, arith}
use Rattle.std.proofs.lemmas.Bool.Decides.{nat_tests}
use Rattle.hs_base.specs.declared.ids.PointId.{PointId}
use Rattle.hs_base.specs.declared.mission.Mission.{Mission}
use Rattle.hs_machine.specs.declared.history.Entry.{Entry}
use Rattle.hs_machine.specs.declared.history.Deed.{Deed}
use Rattle.hs_machine.specs.declared.history.Deed.TheVariants.{Fire, Report, Late, Early, Broken}
use Rattle.hs_machine.specs.declared.history.Phase.{Phase}
use Rattle.hs_machine.specs.declared.history.Phase.TheVariants.{Waiting, Running, Failed, Ended}
use Rattle.hs_base.specs.Moments.{Moment, MayFire}
use Rattle.hs_machine.specs.State.{count_at, executed, moment_of, phase_of, executes, is_failure, hands_over, is_tick}
use Rattle.hs_machine.specs.Machine.{Event, fire, report, done, over, no_net, no_point, failed, RefusedIf, PointReply, Replies, IsLeftBy, is_over, is_waiting, needs_net}
use Rattle.hs_machine.specs.Machine as machine
use Rattle.run_laws.proofs.RunLemmas.{otherwise}
use Rattle.run_laws.proofs.RunLemmas as run

-- what is answered otherwise than by Over is not over
pub not_over : (m : Mission) (h : List Entry) (event : Event) (reply : machine.Reply) → Replies m h event reply → reply ≢ over → is_over (phase_of h) ≡ false
not_over m h event reply lawful other = by_case (is_over (phase_of h)) _ lawful
  where
    by_case : (b : Bool) (P : Type 0) → RefusedIf b over reply P → b ≡ false
    by_case true P r = absurd (other r)
    by_case false P r = refl

-- an event that asks for a plan is answered otherwise than by Over and NoNet only in a running state
pub answered_running : (m : Mission) (h : List Entry) (event : Event) (reply : machine.Reply) → Replies m h event reply → needs_net event ≡ true → reply ≢ over → reply ≢ no_net → phase_of h ≡ Running
answered_running m h event reply lawful needs other another = by_phase (phase_of h) (needs_net event) _ lawful needs
  where
    by_phase : (p : Phase) (b : Bool) (P : Type 0) → RefusedIf (is_over p) over reply (RefusedIf (is_waiting p && b) no_net reply P) → b ≡ true → p ≡ Running
    by_phase Waiting true P r is = absurd (another r)
    by_phase Waiting false P r is = absurd (cc)
    by_phase Running b P r is = refl
    by_phase Failed b P r is = absurd (other r)
    by_phase Ended b P r is = absurd (other r)

pub done_running : (m : Mission) (h : List Entry) (event : Event) → Replies m h event done → needs_net event ≡ true → phase_of h ≡ Running
done_running m h event lawful needs = answered_running m h event done lawful needs (λ (e : done ≡ over). cc) (λ (e : done ≡ no_net). cc)

-- a point that is executed now
pub record MayExecute (m : Mission) (h : List Entry) (d : Deed) (x : ℕ) : Type 0 where
  pub running : phase_of h ≡ Running
  pub below : x < count_at h
  pub none : executed h x ≡ None
  pub may : MayFire (moment_of m h) x
  pub no_plan : hands_over d ≡ None
  pub no_tick : is_tick d ≡ false
  pub sound : is_failure d ≡ false

point_below : (w : Moment) (x : ℕ) (P : Type 0) → PointReply w x done P → x < w.points
point_below w x P r = by_case (nat_le w.points x) refl _ r
  where
    by_case : (b : Bool) → nat_le w.points x ≡ b → (Q : Type 0) → RefusedIf b no_point done Q → x < w.points
    by_case true is Q r = absurd (let e : done ≡ no_point = r in cc)
    by_case false is Q r = grind (arith, nat_tests)

fire_executes : (m : Mission) (h : List Entry) (x : PointId) → Replies m h (fire x.0) done → MayExecute m h (Fire x) x.0
fire_executes m h x lawful = record {
  running = done_running m h (fire x.0) lawful refl;
  below = point_below (moment_of m h) x.0 _ (run.event_reply m h (fire x.0) lawful);
  none = (run.fired m h x.0 lawful).0;
  may = (run.fired m h x.0 lawful).1;
  no_plan = refl;
  no_tick = refl;
  sound = refl;
}

report_executes : (m : Mission) (h : List Entry) (x : PointId) → Replies m h (report x.0) done → MayExecute m h (Report x) x.0
report_executes m h x lawful = record {
  running = done_running m h (report x.0) lawful refl;
  below = point_below (moment_of m h) x.0 _ (run.event_reply m h (report x.0) lawful);
  none = (run.reported m h x.0 lawful).0;
  may = (run.reported m h x.0 lawful).1;
  no_plan = refl;
  no_tick = refl;
  sound = refl;
}

pub may_execute : (m : Mission) (h : List Entry) (d : Deed) (x : PointId) (event : Event) (reply : machine.Reply) → Replies m h event reply → IsLeftBy m d event reply → executes d ≡ Some x → MayExecute m h d x.0
may_execute m h (Fire y) x event reply lawful left is =
    let same : y ≡ x = cc in
    let here : Replies m h (fire y.0) done = rw (left.0, left.1) at lawful in
    subst (λ (z : PointId). MayExecute m h (Fire y) z.0) same (fire_executes m h y here)
may_execute m h (Report y) x event reply lawful left is =
    let same : y ≡ x = cc in
    let here : Replies m h (report y.0) done = rw (left.0, left.1) at lawful in
    subst (λ (z : PointId). MayExecute m h (Report y) z.0) same (report_executes m h y here)
may_execute m h _ x event reply lawful left is = absurd (cc)

-- a failure
pub record MayFail (m : Mission) (h : List Entry) (d : Deed) : Type 0 where
  pub going : is_over (phase_of h) ≡ false
  pub no_plan : hands_over d ≡ None
  pub no_point : executes d ≡ None
  pub no_tick : is_tick d ≡ false

failing : (m : Mission) (h : List Entry) (d : Deed) (event : Event) (reply : machine.Reply) → Replies m h event reply → reply ≢ over → hands_over d ≡ None → executes d ≡ None → is_tick d ≡ false → MayFail m h d
failing m h d event reply lawful other a b t = record { going = not_over m h event reply lawful other; no_plan = a; no_point = b; no_tick = t }

pub may_fail : (m : Mission) (h : List Entry) (d : Deed) (event : Event) (reply : machine.Reply) → Replies m h event reply → IsLeftBy m d event reply → is_failure d ≡ true → MayFail m h d
may_fail m h (Late b) event reply lawful left is = failing m h (Late b) event reply lawful (λ (e : reply ≡ over). let f : failed b ≡ over = sym left.1 ∙ e in cc) refl refl refl
may_fail m h (Early b) event reply lawful left is = failing m h (Early b) event reply lawful (λ (e : reply ≡ over). let f : failed b ≡ over = sym left.1 ∙ e in cc) refl refl refl
may_fail m h (Broken v) event reply lawful left is = failing m h (Broken v) event reply lawful (λ (e : reply ≡ over). let f : done ≡ over = sym left.1 ∙ e in cc) refl refl refl
may_fail m h _ event reply lawful left is = absurd (cc)
