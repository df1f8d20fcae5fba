use Rattle.std.proofs.Common.{◌≡◌, map, take}
use Rattle.domain_check.specs.Numbering.{value_id}
use Rattle.domain_check.specs.Tables.{names_in}
use Rattle.domain_check.proofs.values.next_of.Given as goal

abbrev pub invariant-loop-value : goal.invariant-loop-value
invariant-loop-value l = l.ids ≡ map (value_id (names_in l.names)) (take l.value-index l.next)
