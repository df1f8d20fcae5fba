use Rattle.std.proofs.Common.{◌≡◌, ◌≤◌, drop, length, map}
use Rattle.search_tree.specs.Extends.{place_in}
use Rattle.timeline_db.specs.Lines.{cell_of}
use Rattle.timeline_db.proofs.extending.place_of.Given as goal

abbrev pub invariant-loop-place : goal.invariant-loop-place
invariant-loop-place l = (place_in l.stop 0 (map cell_of l.line.tokens) ≡ place_in l.stop l.place (map cell_of (drop l.place l.line.tokens))) × (l.place ≤ length l.line.tokens)
