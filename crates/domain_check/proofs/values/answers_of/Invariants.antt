use Rattle.std.proofs.Common.{◌≡◌, map, take}
use Rattle.domain_check.specs.Numbering.{said_of}
use Rattle.domain_check.specs.Tables.{names_in}
use Rattle.domain_check.proofs.values.answers_of.Given as goal

abbrev pub invariant-loop-clause : goal.invariant-loop-clause
invariant-loop-clause l = l.answers ≡ map (map (said_of (names_in l.words))) (take l.clause-index l.clauses)
