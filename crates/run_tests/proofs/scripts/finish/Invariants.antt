use Rattle.std.proofs.Common.{◌≢◌, []}
use Rattle.run_tests.proofs.scripts.finish.Given as goal

abbrev pub invariant-loop-i : goal.invariant-loop-i
invariant-loop-i l = l.runner.left ≢ []
