use Rattle.std.proofs.Common.{ap, sym, ◌∙◌, arith}
use Rattle.device_script.specs.Runs.{Stage}
use Rattle.device_script.proofs.StageLemmas.{none_left}
use Rattle.device_script.proofs.runner.Runner.hear.Goals as goal

pub returns-clause-finished : goal.returns-clause-finished
returns-clause-finished c = (
  λ same. absurd (grind (arith, same)),
  λ none. absurd (c.if-self-len.false (none_left c.self.inside.steps c.self.inside.reached c.self.invariant.1 (ap (λ (s : Stage). s.left) c.self.view_is ∙ none) ∙ sym c.len.ensures)),
)
