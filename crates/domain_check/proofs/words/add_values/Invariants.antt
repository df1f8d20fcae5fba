use Rattle.std.proofs.Common.{◌≡◌, flat_map, drop}
use Rattle.hs_texts.specs.MissionMeaning.{first_seen, words_of_value}
use Rattle.domain_check.specs.Tables.{names_in}
use Rattle.domain_check.proofs.words.add_values.Given as goal

abbrev pub invariant-loop-value : goal.invariant-loop-value
invariant-loop-value l = first_seen (names_in l.words) (flat_map words_of_value (drop l.value-index l.values)) ≡ first_seen (names_in l.fn.words) (flat_map words_of_value l.values)
