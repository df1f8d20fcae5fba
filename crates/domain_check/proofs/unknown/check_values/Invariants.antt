use Rattle.std.proofs.Common.{◌≡◌, flat_map, drop}
use Rattle.hs_texts.specs.MissionRefusals.{unknown_in, next_names}
use Rattle.domain_check.specs.Tables.{names_in}
use Rattle.domain_check.proofs.unknown.check_values.Given as goal

abbrev pub invariant-loop-value : goal.invariant-loop-value
invariant-loop-value l = flat_map (unknown_in (names_in l.known)) (flat_map next_names l.values) ≡ flat_map (unknown_in (names_in l.known)) (flat_map next_names (drop l.value-index l.values))
