use Rattle.std.proofs.Common.{◌≡◌, sym, subst}
use Rattle.search_tree.specs.declared.part.Part.{Part}
use Rattle.timeline_db.proofs.OwnLemmas.{some_same}
use Rattle.timeline_db.proofs.UndoingLemmas.{some_last}
use Rattle.timeline_db.specs.Taking.{Shows, TakesBack}
use Rattle.timeline_db.proofs.draft.Draft.take_back.Goals as goal

pub take_back-requires-in-Some : goal.take_back-requires-in-Some
take_back-requires-in-Some c =
    let s = some_last c.args.self.now.course.steps.items c.requires.some in
    let same : c.in-Some.part ≡ s.0.part = some_same (c.in-Some.ensures.some s.0 s.1).0 in
    subst (λ (x : Part). Shows x c.args.self.now.board) (sym same) (c.requires.shows s.0 s.1)

pub returns-in-Some-clause-board : goal.returns-in-Some-clause-board
returns-in-Some-clause-board c =
    λ s at.
    let same : c.in-Some.part ≡ s.part = some_same (c.in-Some.ensures.some s at).0 in
    subst (λ (x : Part). TakesBack x c.args.self.now.board c.take_back-in-Some.new.self) same c.take_back-in-Some.ensures

pub returns-in-Some-clause-trail : goal.returns-in-Some-clause-trail
returns-in-Some-clause-trail c = λ s at. (c.in-Some.ensures.some s at).1

pub returns-in_default-clause-board : goal.returns-in_default-clause-board
returns-in_default-clause-board c = λ s at. let e = (c.take_back.ensures.some s at).0 in absurd (cc)
