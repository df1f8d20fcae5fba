use Rattle.std.proofs.Common.{◌+◌, arith}
use Rattle.drill_mission.specs.Drill.{worker}
use Rattle.drill_mission.proofs.NumberLemmas.{push_number}
use Rattle.drill_mission.proofs.missions.push_workers.Goals as goal

pub loop-done-preserved : goal.loop-done-preserved
loop-done-preserved c =
    push_number worker 1 c.loop-done.done (c.loop-done.done + 1) c.args.vars.now c.loop-done.vars _ c.in_ok-worker.field-0 (omega arith) c.loop-done.invariant c.in_ok-worker.ensures c.in_ok-push.ensures.ok
