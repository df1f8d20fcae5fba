use Rattle.std.proofs.Common.{◌≡◌, ◌++◌, take}
use Rattle.stn_trail.specs.Held.{points_of, bounds_of}
use Rattle.plan_check.proofs.schedule.add_bounds.Given as goal

abbrev pub invariant-loop-bound : goal.invariant-loop-bound
invariant-loop-bound l = record {
  points : points_of l.trail ≡ points_of l.fn.trail;
  bounds : bounds_of l.trail ≡ bounds_of l.fn.trail ++ take l.bound-index l.bounds;
}
