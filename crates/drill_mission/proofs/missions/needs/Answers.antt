use Rattle.std.proofs.Common.{◌+◌, [], arith}
use Rattle.drill_mission.specs.Drill.{work_need}
use Rattle.drill_mission.proofs.NumberLemmas.{push_number}
use Rattle.drill_mission.proofs.missions.needs.Goals as goal

pub loop-done-preserved : goal.loop-done-preserved
loop-done-preserved c =
    push_number work_need 1 c.loop-done.done (c.loop-done.done + 1) [] c.loop-done.needs _ c.in_ok-need.field-0 (omega arith) c.loop-done.invariant c.in_ok-need.ensures c.in_ok-push.ensures.ok
