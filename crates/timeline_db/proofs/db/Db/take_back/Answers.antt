use Rattle.timeline_db.proofs.UndoingLemmas.{back_in, back_mark, back_shows, back_view, some_steps}
use Rattle.timeline_db.proofs.db.Db.take_back.Goals as goal

pub take_back-requires-clause-mark : goal.take_back-requires-clause-mark
take_back-requires-clause-mark c = back_mark c.self.inside c.self.invariant

pub take_back-requires-clause-shows : goal.take_back-requires-clause-shows
take_back-requires-clause-shows c = back_shows c.self.inside c.self.invariant

pub invariant_of-self : goal.invariant_of-self
invariant_of-self c =
    back_in c.self.inside c.self.invariant c.take_back.new.self (some_steps c.self.inside c.self.invariant c.args.self.now c.self.view_is c.requires) c.take_back.ensures.steps c.take_back.ensures.board c.take_back.ensures.trail

pub returns : goal.returns
returns c = back_view c.self.inside c.self.invariant c.args.self.now c.self.view_is c.take_back.new.self.course.steps.items c.take_back.ensures.steps
