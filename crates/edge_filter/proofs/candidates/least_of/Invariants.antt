use Rattle.std.proofs.Common.{Contains}
use Rattle.edge_filter.proofs.candidates.least_of.Given as goal

abbrev pub invariant-loop-next : goal.invariant-loop-next
invariant-loop-next l = Contains l.waiting l.least
