use Rattle.std.proofs.Common.{◌≡◌, flat_map, drop}
use Rattle.hs_texts.specs.MissionRefusals.{unknown_in}
use Rattle.domain_check.specs.Tables.{names_in, names_of_uses}
use Rattle.domain_check.proofs.unknown.check_uses.Given as goal

abbrev pub invariant-loop-value : goal.invariant-loop-value
invariant-loop-value l = flat_map (unknown_in (names_in l.known)) (names_of_uses l.uses) ≡ flat_map (unknown_in (names_in l.known)) (names_of_uses (drop l.value-index l.uses))
