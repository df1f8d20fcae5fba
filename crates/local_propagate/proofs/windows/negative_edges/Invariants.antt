use Rattle.std.proofs.Common.{◌≡◌, map, take}
use Rattle.std.specs.List.{count_by}
use Rattle.local_propagate.specs.Narrowed.{is_negative}
use Rattle.local_propagate.proofs.windows.negative_edges.Given as goal

abbrev pub invariant-loop-i : goal.invariant-loop-i
invariant-loop-i l = l.waits.items ≡ map (count_by is_negative) (take l.i l.after)
