use Rattle.std.proofs.Common.{◌≡◌, ◌++◌, flat_map, map, drop, codes}
use Rattle.hs_texts.specs.CanonicalText.{apart, use_text}
use Rattle.ddl_print.proofs.values.push_uses.Given as goal

abbrev pub invariant-loop-value : goal.invariant-loop-value
invariant-loop-value l = l.text ++ flat_map (λ y. codes ", " ++ y) (map use_text (drop l.value-index l.rest)) ≡ l.fn.text ++ apart (codes ", ") (map use_text l.values)
