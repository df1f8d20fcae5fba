use Rattle.std.proofs.Common.{◌≡◌, ◌++◌, flat_map, map, drop, codes}
use Rattle.hs_texts.specs.CanonicalText.{apart, step_text}
use Rattle.ddl_print.proofs.scripts.push_steps.Given as goal

abbrev pub invariant-loop-step : goal.invariant-loop-step
invariant-loop-step l = l.text ++ flat_map (λ y. codes "; " ++ y) (map step_text (drop l.step-index l.rest)) ≡ l.fn.text ++ apart (codes "; ") (map step_text l.steps)
