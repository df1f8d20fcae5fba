use Rattle.std.proofs.Common.{◌++◌, ◌-◌, ◌≡◌, drop, map, true}
use Rattle.search_tree.specs.Flaws.{slots_after, slots_from}
use Rattle.timeline_db.specs.Lines.{cell_of}
use Rattle.compat_resolve.specs.Listed.{inserts}
use Rattle.compat_resolve.proofs.listing.push_gaps.Given as goal

abbrev pub invariant-loop-place : goal.invariant-loop-place
invariant-loop-place l = l.list ++ inserts l.kind (slots_after true (l.place - 1) (drop l.place (map cell_of l.tokens))) ≡ l.fn.list ++ inserts l.kind (slots_from true (map cell_of l.tokens))
