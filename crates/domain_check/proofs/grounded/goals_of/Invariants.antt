use Rattle.std.proofs.Common.{◌≡◌, map, take}
use Rattle.domain_check.specs.Numbering.{goal_of}
use Rattle.domain_check.proofs.grounded.goals_of.Given as goal

abbrev pub invariant-loop-goal : goal.invariant-loop-goal
invariant-loop-goal l = l.made ≡ map (goal_of l.tables.written.now) (take l.goal-index l.goals)
