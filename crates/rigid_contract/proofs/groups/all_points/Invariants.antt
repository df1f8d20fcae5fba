use Rattle.std.proofs.Common.{◌≡◌}
use Rattle.hs_base.specs.Schedule.{numbers_from}
use Rattle.rigid_contract.proofs.groups.all_points.Given as goal

abbrev pub invariant-loop-point : goal.invariant-loop-point
invariant-loop-point l = l.points.items ≡ numbers_from 0 l.point
