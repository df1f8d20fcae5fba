use Rattle.std.proofs.Common.{◌++◌, ◌≡◌, drop, map}
use Rattle.timeline_db.specs.Lines.{cell_of}
use Rattle.compat_resolve.specs.Listed.{connects}
use Rattle.compat_resolve.proofs.listing.push_connects.Given as goal

abbrev pub invariant-loop-place : goal.invariant-loop-place
invariant-loop-place l = l.list ++ connects l.kind l.place (drop l.place (map cell_of l.tokens)) ≡ l.fn.list ++ connects l.kind 0 (map cell_of l.tokens)
