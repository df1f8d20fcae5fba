use Rattle.std.proofs.Common.{List, ◌++◌, sym, subst, IfErr}
use Rattle.hs_base.specs.declared.net.Bound.{Bound}
use Rattle.hs_base.specs.Schedule.{HasNoSchedule}
use Rattle.timeline_db.specs.Shutting.{IfCycle}
use Rattle.timeline_db.proofs.CourseLemmas.{points-grown, bounds-grown, range_same}
use Rattle.timeline_db.proofs.course.extend.Goals as goal

pub add_all-requires : goal.add_all-requires
add_all-requires c = λ k d l. range_same _ _ _ (sym (points-grown c.args.grown c.args.trail.now c.grow_by.new.trail c.in_ok-grow_by.ensures.grown)) (c.requires.range k d l)

pub returns-clause-none : goal.returns-clause-none
returns-clause-none c =
    subst (λ (bs : List Bound). IfErr c.add_all.result (λ e. IfCycle e (HasNoSchedule (bs ++ c.args.bounds.now)))) (bounds-grown c.args.grown c.args.trail.now c.grow_by.new.trail c.in_ok-grow_by.ensures.grown) c.add_all.ensures.none
