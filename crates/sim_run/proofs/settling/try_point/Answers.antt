use Rattle.std.proofs.Common.{rules, map, sym, subst, true, false}
use Rattle.std.proofs.lemmas.Bool.{OnFalse_at, OnTrue_at}
use Rattle.sim_run.specs.Told.{known}
use Rattle.sim_run.specs.Moves.{GoesFurther}
use Rattle.sim_run.proofs.MoveLemmas.{goes_then}
use Rattle.sim_run.proofs.SettleLemmas.{fired_crewed, fired_further, fired_over}
use Rattle.sim_run.proofs.settling.try_point.Goals as goal

pub returns-then-not-is_going-clause-over : goal.returns-then-not-is_going-clause-over
returns-then-not-is_going-clause-over g c = λ is.
    let f = OnTrue_at c.if-not-fires.false c.fires.ensures.fired in
    let ready = c.requires.1 in (
      (fired_further c.args.point c.args.exec.now c.fires.new.exec ready.crewed.going f).goes_on,
      fired_over c.args.point c.args.exec.now c.fires.new.exec ready.crewed.going f g.before (map (known g.D.Device.polls g.D.Device.faults) c.args.devices.now) c.args.watch.now.posts.items ready.crewed (OnFalse_at c.if-not-is_going.true c.is_going.ensures.no),
    )

pub attend_all-requires : goal.attend_all-requires
attend_all-requires g c κs within =
    let f = OnTrue_at c.if-not-fires.false c.fires.ensures.fired in
    let ready = c.requires.1 in
    (search rules, fired_crewed c.args.point c.args.exec.now c.fires.new.exec ready.crewed.going f g.before (map (known g.D.Device.polls g.D.Device.faults) c.args.devices.now) c.args.watch.now.posts.items ready.crewed (OnTrue_at c.if-not-is_going.false c.is_going.ensures.yes))

pub returns-then-branch-clause-fired : goal.returns-then-branch-clause-fired
returns-then-branch-clause-fired g c = λ is.
    let f = OnTrue_at c.if-not-fires.false c.fires.ensures.fired in
    let on = OnTrue_at c.if-branch.true c.in_ok-attend_all.ensures.goes_on in
    (subst (GoesFurther c.args.exec.now) (sym on.0) (fired_further c.args.point c.args.exec.now c.fires.new.exec c.requires.1.crewed.going f), on.1)

pub returns-else-branch-clause-over : goal.returns-else-branch-clause-over
returns-else-branch-clause-over g c = λ is.
    let f = OnTrue_at c.if-not-fires.false c.fires.ensures.fired in
    let over = OnFalse_at c.if-branch.false c.in_ok-attend_all.ensures.over in
    (goes_then c.args.exec.now c.fires.new.exec c.attend_all.new.exec (fired_further c.args.point c.args.exec.now c.fires.new.exec c.requires.1.crewed.going f).goes_on over.0, over.1)
