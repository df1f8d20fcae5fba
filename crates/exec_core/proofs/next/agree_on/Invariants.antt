use Rattle.std.proofs.Common.{◌≡◌, take}
use Rattle.exec_core.proofs.next.agree_on.Given as goal

abbrev pub invariant-loop-i : goal.invariant-loop-i
invariant-loop-i l = take l.i l.newest ≡ take l.i l.offered
