use Rattle.std.proofs.Common.{◌≡◌, length}
use Rattle.std.specs.Prelude.{codes}
use Rattle.text_laws.specs.Parsers.{is_word}
use Rattle.plan_text.specs.Loops.{with_front}
use Rattle.plan_text.specs.PlanReading.{series, fix_at, fixed_points_at}
use Rattle.plan_text.proofs.reader.PlanReader.fixed_points.Given as goal

abbrev pub invariant-fixed : goal.invariant-fixed
invariant-fixed l = with_front l.fixed (series (is_word (codes "fix")) (fix_at l.plan.mission) (λ before time. before) l.plan.extensions l.self) ≡ fixed_points_at l.plan.mission l.plan.extensions l.fn.self

abbrev pub decreases-fixed : goal.decreases-fixed
decreases-fixed l = length l.self
