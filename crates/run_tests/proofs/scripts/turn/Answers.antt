use Rattle.std.proofs.Common.{◌∙◌, ap, sym}
use Rattle.device_script.specs.Runs.{Stage}
use Rattle.run_tests.proofs.ScriptLemmas.{awaits}
use Rattle.run_tests.proofs.scripts.turn.Goals as goal

pub finish-at-requires : goal.finish-at-requires
finish-at-requires c =
    λ none. awaits c.in_ok-value.value.script c.in_ok-value.ensures (sym (ap (λ (s : Stage). s.left) c.in_ok-runner.ensures) ∙ sym c.orders.ensures ∙ none)
