use Rattle.std.proofs.Common.{refl}
use Rattle.timeline_db.proofs.DraftLemmas.{back_same, keeps_board}
use Rattle.timeline_db.proofs.draft.Draft.put.Goals as goal

pub returns-in-Err-clause-same : goal.returns-in-Err-clause-same
returns-in-Err-clause-same c =
    let old = c.args.self.now in
    let back = back_same old.course.trail c.take.new.self.trail c.take_back.new.self.trail old.course.steps.items c.take.new.self.steps.items c.take_back.new.self.steps.items _ _ c.in_ok-take.ensures.added c.in_ok-take.ensures.steps refl (λ q e. (c.take_back.ensures.some q e).1) c.take_back.ensures.steps in
    record { board = keeps_board old.board c.put.new.self c.args.sv.0 c.in-Err.ensures.err; trail = back.0; steps = back.1 }
