use Rattle.std.proofs.Common.{◌≡◌, ◌++◌, flat_map, take}
use Rattle.hs_texts.specs.CanonicalText.{value_lines}
use Rattle.ddl_print.proofs.values.push_values.Given as goal

abbrev pub invariant-loop-value : goal.invariant-loop-value
invariant-loop-value l = l.text ≡ l.fn.text ++ flat_map value_lines (take l.value-index l.values)
