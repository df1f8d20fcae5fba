use Rattle.std.proofs.Common.{◌≡◌, ◌++◌, drop}
use Rattle.search_tree.specs.Flaws.{flat_map_from}
use Rattle.timeline_db.specs.Boards.{pictured}
use Rattle.timeline_db.specs.Extending.{late_supports}
use Rattle.timeline_db.proofs.board.Board.named_supports.Given as goal

abbrev pub invariant-loop-sv : goal.invariant-loop-sv
invariant-loop-sv l = l.supports ++ flat_map_from (late_supports l.mission (pictured l.self)) l.sv (drop l.sv l.self.lines.items) ≡ flat_map_from (late_supports l.mission (pictured l.self)) 0 l.self.lines.items
