use Rattle.std.proofs.Common.{◌∙◌, map, refl, subst, Some}
use Rattle.sim_run.specs.Told.{known}
use Rattle.sim_run.specs.Watches.{IsFirst, watched_points}
use Rattle.sim_run.proofs.SettleLemmas.{trying_begins, trying_done, trying_fired, trying_refused}
use Rattle.sim_run.proofs.settling.pass.Goals as goal

pub points-init : goal.points-init
points-init g c = record { trying = trying_begins c.args.exec.now g.before (map (known g.D.Device.polls g.D.Device.faults) c.args.devices.now) c.args.watch.now c.requires.1; many = refl }

pub points-preserved-in-Refused : goal.points-preserved-in-Refused
points-preserved-in-Refused g c =
    let f = known g.D.Device.polls g.D.Device.faults in
    let next : IsFirst c.points.from (watched_points c.points.watch) (Some c.in-Some.point) = subst (IsFirst c.points.from (watched_points c.points.watch)) c.in-Some.is c.next_from.ensures in
    record {
      trying = trying_refused c.points.tried c.points.from c.args.exec.now c.points.exec g.before (map f c.points.devices) c.points.watch c.points.invariant.trying c.in-Some.point next c.try_point.new.exec (map f c.try_point.new.devices) c.try_point.new.watch (c.in_ok-try_point.ensures.refused c.in-Refused.is);
      many = c.in_ok-try_point.ensures.many ∙ c.points.invariant.many;
    }

pub points-preserved : goal.points-preserved
points-preserved g c =
    let f = known g.D.Device.polls g.D.Device.faults in
    let next : IsFirst c.points.from (watched_points c.points.watch) (Some c.in-Some.point) = subst (IsFirst c.points.from (watched_points c.points.watch)) c.in-Some.is c.next_from.ensures in
    let fired = c.in_ok-try_point.ensures.fired c.in-Fired.is in
    record {
      trying = trying_fired c.points.tried c.points.from c.args.exec.now c.points.exec g.before (map f c.points.devices) c.points.watch c.points.invariant.trying c.in-Some.point next c.try_point.new.exec (map f c.try_point.new.devices) c.try_point.new.watch fired.0 fired.1;
      many = c.in_ok-try_point.ensures.many ∙ c.points.invariant.many;
    }

pub returns-clause-still : goal.returns-clause-still
returns-clause-still g c = λ is.
    let f = known g.D.Device.polls g.D.Device.faults in
    trying_done c.points.tried c.points.from c.args.exec.now c.points.exec g.before (map f c.points.devices) c.points.watch c.points.invariant.trying (subst (IsFirst c.points.from (watched_points c.points.watch)) c.in_default.is c.next_from.ensures) is
