use Rattle.std.proofs.Common.{◌≡◌, map, take}
use Rattle.domain_check.specs.Numbering.{said_of}
use Rattle.domain_check.specs.Tables.{names_in}
use Rattle.domain_check.proofs.values.said_of.Given as goal

abbrev pub invariant-loop-answer : goal.invariant-loop-answer
invariant-loop-answer l = l.said ≡ map (said_of (names_in l.words)) (take l.answer-index l.answers)
