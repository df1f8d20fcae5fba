use Rattle.std.proofs.Common.{◌≡◌, ◌++◌, flat_map, take}
use Rattle.timeline_db.specs.Opening.{line_bounds}
use Rattle.timeline_db.proofs.opening.push_lines.Given as goal

abbrev pub invariant-loop-line : goal.invariant-loop-line
invariant-loop-line l = l.made.items ≡ l.initial.made.items ++ flat_map (line_bounds l.mission l.mark l.since) (take l.line-index l.lines)
