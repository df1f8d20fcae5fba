-- The pass stays one of the shared core.
use Rattle.std.proofs.Common.{◌≡◌}
use Rattle.exec_lock.proofs.tests.note_all.Given as goal

abbrev pub invariant-loop-n : goal.invariant-loop-n
invariant-loop-n g l = l.pass.shared ≡ l.fn.pass.shared
