use Rattle.std.proofs.Common.{◌≡◌, take, map}
use Rattle.hs_base.specs.Schedule.{time_of}
use Rattle.stn_distance.proofs.folding.times_of_rows.Given as goal

abbrev pub invariant-loop-point : goal.invariant-loop-point
invariant-loop-point l = l.taken.items ≡ map (time_of l.times) (take l.point-index l.points)
