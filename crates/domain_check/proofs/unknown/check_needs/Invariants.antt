use Rattle.std.proofs.Common.{◌≡◌, flat_map, drop}
use Rattle.hs_texts.specs.MissionRefusals.{unknown_in_kind, kinds_of_need}
use Rattle.domain_check.proofs.unknown.check_needs.Given as goal

abbrev pub invariant-loop-need : goal.invariant-loop-need
invariant-loop-need l = flat_map (unknown_in_kind l.tables.written.now) (flat_map kinds_of_need l.needs) ≡ flat_map (unknown_in_kind l.tables.written.now) (flat_map kinds_of_need (drop l.need-index l.needs))
