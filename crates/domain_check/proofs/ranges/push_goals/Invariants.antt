use Rattle.std.proofs.Common.{◌≡◌, ◌++◌, map, flat_map, take}
use Rattle.hs_texts.specs.MissionRefusals.{is_exchanged, ranges_of_goal}
use Rattle.domain_check.proofs.ranges.push_goals.Given as goal

abbrev pub invariant-loop-goal : goal.invariant-loop-goal
invariant-loop-goal l = l.bad ≡ l.fn.bad ++ map is_exchanged (flat_map ranges_of_goal (take l.goal-index l.goals))
