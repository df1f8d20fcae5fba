use Rattle.std.proofs.Common.{◌≡◌, flat_map, drop}
use Rattle.hs_texts.specs.MissionRefusals.{unknown_in_kind}
use Rattle.domain_check.specs.Tables.{kinds_of_choices}
use Rattle.domain_check.proofs.unknown.check_choices.Given as goal

abbrev pub invariant-loop-choice : goal.invariant-loop-choice
invariant-loop-choice l = flat_map (unknown_in_kind l.tables.written.now) (kinds_of_choices l.choices) ≡ flat_map (unknown_in_kind l.tables.written.now) (kinds_of_choices (drop l.choice-index l.choices))
