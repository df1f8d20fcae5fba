use Rattle.std.proofs.Common.{ℕ, ◌≡◌, ◌<◌, [], Option, Some, slice_get}
use Rattle.search_tree.specs.Flaws.{goal_flaws}
use Rattle.search_tree.specs.declared.held.Held.{Held}
use Rattle.timeline_db.proofs.flaws.first_unmet.Given as goal

abbrev pub invariant-loop-number : goal.invariant-loop-number
invariant-loop-number l = (j : ℕ) (o : Option Held) → j < l.number → slice_get l.goals j ≡ Some o → goal_flaws j o ≡ []
