use Rattle.std.proofs.Common.{◌≡◌, ◌++◌, drop}
use Rattle.hs_texts.specs.Written.{goal_lines}
use Rattle.plan_text.proofs.body.push_goals.Given as goal

abbrev pub invariant-loop-number : goal.invariant-loop-number
invariant-loop-number l = l.text ++ goal_lines l.mission l.number (drop l.number l.tokens) ≡ l.fn.text ++ goal_lines l.mission 0 l.tokens
