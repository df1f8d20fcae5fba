use Rattle.std.proofs.Common.{◌≡◌, ◌++◌, flat_map, map, drop, codes}
use Rattle.hs_texts.specs.CanonicalText.{apart, choice_text}
use Rattle.ddl_print.proofs.needs.push_choices.Given as goal

abbrev pub invariant-loop-choice : goal.invariant-loop-choice
invariant-loop-choice l = l.text ++ flat_map (λ y. codes " or " ++ y) (map choice_text (drop l.choice-index l.rest)) ≡ l.fn.text ++ apart (codes " or ") (map choice_text l.choices)
