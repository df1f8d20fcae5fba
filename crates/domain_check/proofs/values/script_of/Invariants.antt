use Rattle.std.proofs.Common.{◌≡◌, map, take}
use Rattle.domain_check.specs.Numbering.{step_of}
use Rattle.domain_check.specs.Tables.{names_in}
use Rattle.domain_check.proofs.values.script_of.Given as goal

abbrev pub invariant-loop-step : goal.invariant-loop-step
invariant-loop-step l = l.script ≡ map (step_of (names_in l.words)) (take l.step-index l.steps)
