use Rattle.std.proofs.Common.{◌≡◌, ◌*◌, map}
use Rattle.std.specs.List.{range_with_len}
use Rattle.drill_mission.specs.Drill.{drill_horizon}
use Rattle.drill_mission.specs.Words.{draws}
use Rattle.drill_mission.proofs.missions.horizons.Given as goal

abbrev pub invariant-loop-before : goal.invariant-loop-before
invariant-loop-before l = (l.horizons ≡ map (drill_horizon l.seed) (range_with_len 0 l.before)) × (l.draws ≡ draws l.seed (2 * l.before))
