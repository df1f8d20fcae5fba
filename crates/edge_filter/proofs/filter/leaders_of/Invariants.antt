use Rattle.std.proofs.Common.{◌≡◌, take}
use Rattle.edge_filter.specs.Marks.{leaders_in}
use Rattle.edge_filter.proofs.filter.leaders_of.Given as goal

abbrev pub invariant-loop-group : goal.invariant-loop-group
invariant-loop-group l = l.leaders.items ≡ leaders_in (take l.group-index l.groups)
