use Rattle.std.proofs.Common.{◌≡◌, ◌++◌, flat_map, map, drop, codes}
use Rattle.hs_texts.specs.CanonicalText.{apart, range_text}
use Rattle.ddl_print.proofs.values.push_lasts.Given as goal

abbrev pub invariant-loop-range : goal.invariant-loop-range
invariant-loop-range l = l.text ++ flat_map (λ y. codes " " ++ y) (map range_text (drop l.range-index l.rest)) ≡ l.fn.text ++ apart (codes " ") (map range_text l.ranges)
