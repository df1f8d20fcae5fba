use Rattle.std.proofs.Common.{take, sym}
use Rattle.timeline_db.proofs.CourseLemmas.{none_at, points-added, range_same, shut_more}
use Rattle.timeline_db.proofs.course.add_all.Goals as goal

pub add-requires : goal.add-requires
add-requires c =
    range_same _ _ _ (sym (points-added (take c.loop-bound.bound-index c.args.bounds.now) c.args.trail.now c.loop-bound.trail c.loop-bound.invariant))
    (c.requires c.loop-bound.bound-index _ c.loop-bound-test.true)

pub returns-in-Err-clause-none : goal.returns-in-Err-clause-none
returns-in-Err-clause-none c =
    shut_more c.in-Err.shut _ _ c.in-Err.ensures.none (none_at c.args.bounds.now c.loop-bound.bound-index _ c.args.trail.now c.loop-bound.trail c.loop-bound.invariant c.loop-bound-test.true)
