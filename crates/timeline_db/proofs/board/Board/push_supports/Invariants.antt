use Rattle.std.proofs.Common.{◌≡◌, ◌++◌, take}
use Rattle.timeline_db.specs.Boards.{pictured}
use Rattle.timeline_db.specs.Extending.{named_from}
use Rattle.timeline_db.proofs.board.Board.push_supports.Given as goal

abbrev pub invariant-loop-backing : goal.invariant-loop-backing
invariant-loop-backing l = l.supports ≡ l.fn.supports ++ named_from (pictured l.self) l.name l.stop l.need (take l.backing-index l.self.supports.items)
