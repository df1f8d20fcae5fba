use Rattle.std.proofs.Common.{◌≡◌, take}
use Rattle.std.specs.List.{fold}
use Rattle.local_propagate.specs.Narrowed.{raised}
use Rattle.local_propagate.proofs.windows.raise.Given as goal

abbrev pub invariant-loop-last : goal.invariant-loop-last
invariant-loop-last l = l.low ≡ fold (raised l.at) l.initial.low (take l.last-index l.before)
