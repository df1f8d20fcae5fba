use Rattle.std.proofs.Common.{◌≡◌, ◌++◌, flat_map, take}
use Rattle.hs_texts.specs.CanonicalText.{goal_line}
use Rattle.ddl_print.proofs.horizons.push_goals.Given as goal

abbrev pub invariant-loop-goal : goal.invariant-loop-goal
invariant-loop-goal l = l.text ≡ l.fn.text ++ flat_map goal_line (take l.goal-index l.goals)
