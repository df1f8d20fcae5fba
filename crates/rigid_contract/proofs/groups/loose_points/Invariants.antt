use Rattle.std.proofs.Common.{◌≡◌, take}
use Rattle.std.specs.Prelude.{filter}
use Rattle.stn_distance.specs.Distances.{weight}
use Rattle.rigid_contract.specs.Among.{is_loose}
use Rattle.rigid_contract.proofs.groups.loose_points.Given as goal

abbrev pub invariant-loop-point : goal.invariant-loop-point
invariant-loop-point l = l.loose.items ≡ filter (is_loose (weight l.dist)) (take l.point-index l.points)
