use Rattle.std.proofs.Common.{◌<◌, ℕ, get_or}
use Rattle.local_propagate.specs.declared.neighbours.Neighbour.{Neighbour}
use Rattle.dispatcher.specs.Edges.{LetsFire}
use Rattle.dispatcher.proofs.course.Course.fire_of_unset.Given as goal

abbrev pub invariant-loop-next : goal.invariant-loop-next
invariant-loop-next l = (k : ℕ) (d : Neighbour) → k < l.next-index → LetsFire l.self (get_or l.nexts k d)
