use Rattle.std.proofs.Common.{◌≡◌, take}
use Rattle.std.specs.List.{fold}
use Rattle.local_propagate.specs.Narrowed.{released}
use Rattle.local_propagate.proofs.windows.release.Given as goal

abbrev pub invariant-loop-last : goal.invariant-loop-last
invariant-loop-last l = l.waits ≡ fold released l.initial.waits (take l.last-index l.before)
