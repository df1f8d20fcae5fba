use Rattle.std.proofs.Common.{◌≡◌, ◌+◌, length}
use Rattle.std.specs.Prelude.{codes}
use Rattle.text_laws.specs.Parsers.{is_word}
use Rattle.plan_text.specs.Loops.{with_front}
use Rattle.plan_text.specs.PlanReading.{series, goal_at, goals_at}
use Rattle.plan_text.proofs.reader.PlanReader.goals.Given as goal

abbrev pub invariant-goals : goal.invariant-goals
invariant-goals l = with_front l.goals (series (is_word (codes "goal")) goal_at (λ n goal. n + 1) (length l.goals) l.self) ≡ goals_at l.fn.self

abbrev pub decreases-goals : goal.decreases-goals
decreases-goals l = length l.self
