use Rattle.std.proofs.Common.{◌≡◌, ◌++◌, map}
use Rattle.std.specs.List.{range_with_len}
use Rattle.drill_mission.specs.Drill.{worker}
use Rattle.drill_mission.proofs.missions.push_workers.Given as goal

abbrev pub invariant-loop-done : goal.invariant-loop-done
invariant-loop-done l = l.vars ≡ l.fn.vars ++ map worker (range_with_len 1 l.done)
