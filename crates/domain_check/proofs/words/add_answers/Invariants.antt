use Rattle.std.proofs.Common.{◌≡◌, flat_map, drop}
use Rattle.hs_texts.specs.MissionMeaning.{first_seen}
use Rattle.domain_check.specs.Tables.{names_in}
use Rattle.domain_check.specs.Tables.{words_said}
use Rattle.domain_check.proofs.words.add_answers.Given as goal

abbrev pub invariant-loop-said : goal.invariant-loop-said
invariant-loop-said l = first_seen (names_in l.words) (flat_map words_said (drop l.said-index l.answers)) ≡ first_seen (names_in l.fn.words) (flat_map words_said l.answers)
