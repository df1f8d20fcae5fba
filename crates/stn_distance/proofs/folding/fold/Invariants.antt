use Rattle.std.proofs.Common.{◌≡◌, take}
use Rattle.stn_distance.specs.Folding.{folded_bounds}
use Rattle.stn_distance.proofs.folding.fold.Given as goal

abbrev pub invariant-loop-bound : goal.invariant-loop-bound
invariant-loop-bound l = l.folded.items ≡ folded_bounds l.folding.places.items l.folding.offsets.items (take l.bound-index l.bounds)
