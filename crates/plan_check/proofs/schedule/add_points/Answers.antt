use Rattle.std.proofs.Common.{◌∙◌, arith}
use Rattle.plan_check.proofs.TrailLemmas.{bounds_grown}
use Rattle.plan_check.proofs.schedule.add_points.Goals as goal

pub loop-preserved : goal.loop-preserved
loop-preserved c = record {
  points = omega (arith, c.in_ok-grow.ensures.points, c.loop.invariant.points);
  bounds = bounds_grown c.loop.trail c.grow.new.self c.in_ok-grow.ensures.grown ∙ c.loop.invariant.bounds;
}
