use Rattle.std.proofs.Common.{◌≡◌, length, take, All}
use Rattle.stn_distance.specs.Distances.{weight}
use Rattle.stn_distance.specs.Rows.{items_of}
use Rattle.edge_filter.specs.Weights.{IsRow, weights_on}
use Rattle.edge_filter.proofs.weights.weights_between.Given as goal

abbrev pub invariant-loop-leader : goal.invariant-loop-leader
invariant-loop-leader l = record {
  weights : items_of l.rows.items ≡ weights_on l.side (weight l.dist) l.leaders (take l.leader-index l.leaders);
  rows : All (IsRow (length l.leaders)) (items_of l.rows.items);
}
