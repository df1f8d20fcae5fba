use Rattle.std.proofs.Common.{◌≡◌, take}
use Rattle.std.specs.Prelude.{filter}
use Rattle.edge_filter.specs.Candidates.{is_left}
use Rattle.edge_filter.proofs.candidates.left_by.Given as goal

abbrev pub invariant-loop-next : goal.invariant-loop-next
invariant-loop-next l = l.left.items ≡ filter (is_left l.row l.candidate) (take l.next-index l.waiting)
