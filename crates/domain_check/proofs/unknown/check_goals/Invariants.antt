use Rattle.std.proofs.Common.{◌≡◌, flat_map, drop}
use Rattle.hs_texts.specs.MissionRefusals.{unknown_in_kind}
use Rattle.domain_check.specs.Tables.{kinds_of_goals}
use Rattle.domain_check.proofs.unknown.check_goals.Given as goal

abbrev pub invariant-loop-goal : goal.invariant-loop-goal
invariant-loop-goal l = flat_map (unknown_in_kind l.tables.written.now) (kinds_of_goals l.goals) ≡ flat_map (unknown_in_kind l.tables.written.now) (kinds_of_goals (drop l.goal-index l.goals))
