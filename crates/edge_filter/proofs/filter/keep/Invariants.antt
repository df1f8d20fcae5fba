use Rattle.std.proofs.Common.{◌≡◌, take}
use Rattle.std.specs.Prelude.{flat_map}
use Rattle.hs_base.specs.Reduced.{edges_from}
use Rattle.stn_distance.specs.Distances.{weight}
use Rattle.edge_filter.proofs.filter.keep.Given as goal

abbrev pub invariant-loop-i : goal.invariant-loop-i
invariant-loop-i l = l.edges.items ≡ flat_map (edges_from (weight l.dist) l.leaders.items) (take l.i l.leaders.items)
