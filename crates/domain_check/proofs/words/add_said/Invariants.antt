use Rattle.std.proofs.Common.{◌≡◌, drop}
use Rattle.hs_texts.specs.MissionMeaning.{first_seen}
use Rattle.domain_check.specs.Tables.{names_in}
use Rattle.domain_check.specs.Tables.{words_said}
use Rattle.domain_check.proofs.words.add_said.Given as goal

abbrev pub invariant-loop-answer : goal.invariant-loop-answer
invariant-loop-answer l = first_seen (names_in l.words) (words_said (drop l.answer-index l.said)) ≡ first_seen (names_in l.fn.words) (words_said l.said)
