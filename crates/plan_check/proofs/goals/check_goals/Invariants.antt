use Rattle.std.proofs.Common.{ℕ, ◌<◌}
use Rattle.std.specs.Prelude.{slice_get}
use Rattle.hs_base.specs.Checked.{joined, IsEntryOf}
use Rattle.plan_check.proofs.goals.check_goals.Given as goal

abbrev pub invariant-loop-i : goal.invariant-loop-i
invariant-loop-i l = (j : ℕ) → j < l.i → IsEntryOf (joined l.plan.extensions l.extension) (slice_get l.goals j) (slice_get l.entries j)
