use Rattle.std.proofs.Common.{◌≡◌, take}
use Rattle.stn_distance.specs.Distances.{weight}
use Rattle.edge_filter.specs.Marks.{rows_in, marks_on}
use Rattle.edge_filter.proofs.filter.rows_on.Given as goal

abbrev pub invariant-loop-place : goal.invariant-loop-place
invariant-loop-place l = rows_in l.rows.items ≡ marks_on l.side (weight l.dist) l.leaders (take l.place l.leaders)
