use Rattle.std.proofs.Common.{arith}
use Rattle.timeline_db.proofs.CourseLemmas.{points-grown}
use Rattle.timeline_db.proofs.course.grow_by.Goals as goal

pub grow-requires : goal.grow-requires
grow-requires c = let n = c.loop-test.true in omega (arith, points-grown c.loop.counter c.args.trail.now c.loop.trail c.loop.invariant, c.requires)
