use Rattle.stn_distance.specs.Folding.{IsFolding}
use Rattle.stn_distance.proofs.folding.folding_of.Given as goal

abbrev pub invariant-loop-point : goal.invariant-loop-point
invariant-loop-point l = IsFolding l.point l.fixed l.folding.points.items l.folding.places.items l.folding.offsets.items
