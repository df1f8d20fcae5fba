use Rattle.std.proofs.Common.{◌≡◌, map, take}
use Rattle.domain_check.specs.Numbering.{value_of}
use Rattle.domain_check.specs.Tables.{names_in}
use Rattle.domain_check.proofs.values.values_of.Given as goal

abbrev pub invariant-loop-value : goal.invariant-loop-value
invariant-loop-value l = l.made ≡ map (value_of (names_in l.words) (names_in l.names)) (take l.value-index l.values)
