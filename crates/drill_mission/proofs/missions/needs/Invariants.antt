use Rattle.std.proofs.Common.{◌≡◌, map}
use Rattle.std.specs.List.{range_with_len}
use Rattle.drill_mission.specs.Drill.{work_need}
use Rattle.drill_mission.proofs.missions.needs.Given as goal

abbrev pub invariant-loop-done : goal.invariant-loop-done
invariant-loop-done l = l.needs ≡ map work_need (range_with_len 1 l.done)
