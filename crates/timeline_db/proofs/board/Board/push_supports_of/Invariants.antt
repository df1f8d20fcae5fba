use Rattle.std.proofs.Common.{◌≡◌, ◌++◌, flat_map}
use Rattle.hs_base.specs.Schedule.{numbers_from}
use Rattle.timeline_db.specs.Boards.{pictured}
use Rattle.timeline_db.specs.Extending.{named_from}
use Rattle.timeline_db.proofs.board.Board.push_supports_of.Given as goal

abbrev pub invariant-loop-need : goal.invariant-loop-need
invariant-loop-need l = l.supports ≡ l.fn.supports ++ flat_map (λ j. named_from (pictured l.self) l.name l.held.stop j l.self.supports.items) (numbers_from 0 l.need)
