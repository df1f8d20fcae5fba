use Rattle.std.proofs.Common.{◌≡◌, length, [], ◌∷◌, ◌++◌}
use Rattle.std.specs.Prelude.{codes}
use Rattle.text_laws.specs.Parsers.{is_word}
use Rattle.plan_text.specs.Loops.{with_front}
use Rattle.plan_text.specs.PlanReading.{series, extension_at, extensions_at}
use Rattle.plan_text.proofs.reader.PlanReader.extensions.Given as goal

abbrev pub invariant-extensions : goal.invariant-extensions
invariant-extensions l = (l.plan.mission ≡ l.mission) × with_front l.plan.extensions (series (is_word (codes "extension")) (extension_at l.mission) (λ before e. before ++ e ∷ []) l.plan.extensions l.self) ≡ extensions_at l.mission l.fn.self

abbrev pub decreases-extensions : goal.decreases-extensions
decreases-extensions l = length l.self
