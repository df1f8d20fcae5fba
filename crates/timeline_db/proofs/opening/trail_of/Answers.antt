use Rattle.std.proofs.Common.{◌++◌, List, subst}
use Rattle.hs_base.specs.Schedule.{HasNoSchedule}
use Rattle.stn_trail.specs.Held.{added}
use Rattle.stn_trail.specs.declared.part.Part.{Part}
use Rattle.timeline_db.proofs.opening.trail_of.Goals as goal

pub unreachable-requires : goal.unreachable-requires
unreachable-requires c =
    let none : HasNoSchedule (added c.in_ok-trail.trail.parts ++ c.args.bounds.now) = rw c.in-Err-Cycle.field-0-is at c.in-Err-Cycle.ensures.none in
    let all : HasNoSchedule c.args.bounds.now = subst (λ (l : List Part). HasNoSchedule (added l ++ c.args.bounds.now)) c.in_ok-trail.ensures.fresh.parts none in
    all.none c.requires.schedule.0 c.requires.schedule.1
