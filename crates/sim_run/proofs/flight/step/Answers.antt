use Rattle.std.proofs.Common.{rules, map, sym, subst, true, false}
use Rattle.std.proofs.lemmas.Result.{IfOk-weaker}
use Rattle.std.proofs.lemmas.Bool.{OnFalse_at, OnTrue_at}
use Rattle.sim_run.specs.Told.{known}
use Rattle.sim_run.specs.Moves.{GoesFurther}
use Rattle.sim_run.proofs.MoveLemmas.{further_then, goes_then, on_false, on_true, then_further}
use Rattle.sim_run.proofs.TickLemmas.{has_come, late_on, late_over}
use Rattle.sim_run.proofs.flight.step.Goals as goal

pub returns-then-not-ticks-clause-over : goal.returns-then-not-ticks-clause-over
returns-then-not-ticks-clause-over g c =
    let s = OnTrue_at c.if-not-branch.false c.in_ok-settle.ensures.settled in
    let l = OnFalse_at c.if-not-ticks.true c.ticks.ensures.late in
    let now = map (known g.D.Device.polls g.D.Device.faults) c.settle.new.devices in
    (goes_then c.args.exec.now c.settle.new.exec c.ticks.new.exec s.0 (late_on c.settle.new.exec c.ticks.new.exec g.before now c.settle.new.watch s.2 l), late_over c.settle.new.exec c.ticks.new.exec g.before now c.settle.new.watch s.2 l)

pub poll_all-requires : goal.poll_all-requires
poll_all-requires g c κs within =
    let s = OnTrue_at c.if-not-branch.false c.in_ok-settle.ensures.settled in
    let t = OnTrue_at c.if-not-ticks.false c.ticks.ensures.ticked in
    (search rules, has_come c.settle.new.exec c.ticks.new.exec g.before (map (known g.D.Device.polls g.D.Device.faults) c.settle.new.devices) c.settle.new.watch s.2 t)

pub returns-in-Quiet-clause-goes_on : goal.returns-in-Quiet-clause-goes_on
returns-in-Quiet-clause-goes_on g c =
    let s = OnTrue_at c.if-not-branch.false c.in_ok-settle.ensures.settled in
    let t = OnTrue_at c.if-not-ticks.false c.ticks.ensures.ticked in
    let q = c.poll_all.ensures.quiet c.in-Quiet.is in
    (subst (GoesFurther c.args.exec.now) (sym q.0) (then_further c.args.exec.now c.settle.new.exec c.ticks.new.exec s.0 t.goes_further), q.1)

pub returns-in-Reported-clause-goes_on : goal.returns-in-Reported-clause-goes_on
returns-in-Reported-clause-goes_on g c =
    let s = OnTrue_at c.if-not-branch.false c.in_ok-settle.ensures.settled in
    let t = OnTrue_at c.if-not-ticks.false c.ticks.ensures.ticked in
    let r = c.poll_all.ensures.reported c.in-Reported.is in
    let further = further_then c.args.exec.now c.ticks.new.exec c.poll_all.new.exec (then_further c.args.exec.now c.settle.new.exec c.ticks.new.exec s.0 t.goes_further) r.0 in
    IfOk-weaker c.attend_all.result _ _ (λ on. on_true on _ _ (λ q. (subst (GoesFurther c.args.exec.now) (sym q.0) further, q.1))) c.attend_all.ensures.goes_on

pub returns-in-Reported-clause-over : goal.returns-in-Reported-clause-over
returns-in-Reported-clause-over g c =
    let s = OnTrue_at c.if-not-branch.false c.in_ok-settle.ensures.settled in
    let t = OnTrue_at c.if-not-ticks.false c.ticks.ensures.ticked in
    let r = c.poll_all.ensures.reported c.in-Reported.is in
    let further = further_then c.args.exec.now c.ticks.new.exec c.poll_all.new.exec (then_further c.args.exec.now c.settle.new.exec c.ticks.new.exec s.0 t.goes_further) r.0 in
    IfOk-weaker c.attend_all.result _ _ (λ on. on_false on _ _ (λ q. (goes_then c.args.exec.now c.poll_all.new.exec c.attend_all.new.exec further.goes_on q.0, q.1))) c.attend_all.ensures.over

pub returns-in-Over-clause-over : goal.returns-in-Over-clause-over
returns-in-Over-clause-over g c =
    let s = OnTrue_at c.if-not-branch.false c.in_ok-settle.ensures.settled in
    let t = OnTrue_at c.if-not-ticks.false c.ticks.ensures.ticked in
    let o = c.poll_all.ensures.over c.in-Over.is in
    (goes_then c.args.exec.now c.ticks.new.exec c.poll_all.new.exec (then_further c.args.exec.now c.settle.new.exec c.ticks.new.exec s.0 t.goes_further).goes_on o.0, o.1)
