use Rattle.std.proofs.Common.{◌≡◌, length}
use Rattle.edge_filter.proofs.candidates.middles_of.Given as goal

abbrev pub invariant-loop-leader : goal.invariant-loop-leader
invariant-loop-leader l = length l.middles.items ≡ l.leader-index
