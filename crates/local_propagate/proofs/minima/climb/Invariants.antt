use Rattle.std.proofs.Common.{◌≡◌, ◌+◌, ◌<◌, length, drop}
use Rattle.local_propagate.specs.Tournament.{IsWonBut}
use Rattle.local_propagate.proofs.minima.climb.Given as goal

abbrev pub invariant-games : goal.invariant-games
invariant-games l = record {
  within : l.k < l.size + l.size;
  places : length l.tree ≡ l.size + l.size;
  won : IsWonBut l.k l.size l.tree;
  numbers : drop l.size l.tree ≡ drop l.size l.initial.tree;
}

abbrev pub decreases-games : goal.decreases-games
decreases-games l = l.k
