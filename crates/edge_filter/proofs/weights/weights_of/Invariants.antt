use Rattle.std.proofs.Common.{◌≡◌, take, map, All}
use Rattle.stn_distance.specs.Distances.{weight}
use Rattle.edge_filter.specs.Sides.{along}
use Rattle.edge_filter.specs.Weights.{IsNear}
use Rattle.edge_filter.proofs.weights.weights_of.Given as goal

abbrev pub invariant-loop-other : goal.invariant-loop-other
invariant-loop-other l = record {
  weights : l.row.items ≡ map (along l.side (weight l.dist) l.leader) (take l.other-index l.leaders);
  near : All IsNear l.row.items;
}
