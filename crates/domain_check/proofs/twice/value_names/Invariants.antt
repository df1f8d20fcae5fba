use Rattle.std.proofs.Common.{◌≡◌, [], take, drop}
use Rattle.hs_base.specs.Walks.{join_after}
use Rattle.hs_texts.specs.MissionRefusals.{value_again}
use Rattle.domain_check.specs.Tables.{names_in, names_of_values}
use Rattle.domain_check.proofs.twice.value_names.Given as goal

abbrev pub invariant-loop-value : goal.invariant-loop-value
invariant-loop-value l = (join_after value_again [] l.values ≡ join_after value_again (take l.value-index l.values) (drop l.value-index l.values)) × (names_in l.names ≡ names_of_values (take l.value-index l.values))
