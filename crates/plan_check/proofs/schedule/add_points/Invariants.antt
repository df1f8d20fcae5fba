use Rattle.std.proofs.Common.{◌≡◌, ◌+◌}
use Rattle.stn_trail.specs.Held.{points_of, bounds_of}
use Rattle.plan_check.proofs.schedule.add_points.Given as goal

abbrev pub invariant-loop : goal.invariant-loop
invariant-loop l = record {
  points : points_of l.trail ≡ points_of l.fn.trail + l.counter;
  bounds : bounds_of l.trail ≡ bounds_of l.fn.trail;
}
