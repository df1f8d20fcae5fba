use Rattle.std.proofs.Common.{◌∙◌}
use Rattle.timeline_db.proofs.ExtendingLemmas.{needs_step}
use Rattle.timeline_db.specs.Boards.{pictured}
use Rattle.timeline_db.specs.Extending.{named_from}
use Rattle.timeline_db.proofs.board.Board.push_supports_of.Goals as goal

pub loop-need-preserved : goal.loop-need-preserved
loop-need-preserved c = c.in_ok-push_supports.ensures ∙ needs_step (λ j. named_from (pictured c.args.self.now) c.args.name c.args.held.stop j c.args.self.now.supports.items) c.loop-need.supports c.args.supports.now c.loop-need.need c.loop-need.invariant
