use Rattle.std.proofs.Common.{subst}
use Rattle.timeline_db.proofs.DbLemmas.{open_shown}
use Rattle.timeline_db.specs.Plannings.{IsOpen}
use Rattle.timeline_db.proofs.db.Db.stays_open.Goals as goal

pub returns : goal.returns
returns c =
    let i = c.self.inside in
    let d = c.self.invariant in
    subst IsOpen c.self.view_is (open_shown i.base.mission (record { base = i.base.plan.extensions; since = i.since; fixed = i.fixed }) i.draft.course.steps.items i.draft.course.trail d.begins d.allowed d.course c.is_kept.ensures)
