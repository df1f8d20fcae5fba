use Rattle.std.proofs.Common.{◌≡◌, ◌++◌, drop, map}
use Rattle.search_tree.specs.Extends.{supports_at}
use Rattle.search_tree.specs.Flaws.{flat_map_from}
use Rattle.timeline_db.specs.Boards.{pictured}
use Rattle.timeline_db.specs.Extending.{late_supports}
use Rattle.timeline_db.specs.Lines.{cell_of}
use Rattle.timeline_db.proofs.board.Board.push_supports_in.Given as goal

abbrev pub invariant-loop-place : goal.invariant-loop-place
invariant-loop-place l = l.supports ++ flat_map_from (supports_at l.mission (pictured l.self) l.sv) l.place (drop l.place (map cell_of l.line.tokens)) ≡ l.fn.supports ++ late_supports l.mission (pictured l.self) l.sv l.line
