use Rattle.std.proofs.Common.{◌≡◌, [], map, replicate}
use Rattle.local_propagate.proofs.neighbours.Neighbours.new.Given as goal

abbrev pub invariant-loop-group : goal.invariant-loop-group
invariant-loop-group l = map (λ v. v.items) l.lists.items ≡ replicate l._group []
