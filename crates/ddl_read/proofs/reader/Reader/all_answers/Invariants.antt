use Rattle.std.proofs.Common.{◌≡◌, length}
use Rattle.std.specs.Prelude.{codes}
use Rattle.text_laws.specs.Parsers.{is_word, many}
use Rattle.text_laws.specs.MissionReading.{answers_at}
use Rattle.ddl_read.specs.Loops.{with_front}
use Rattle.ddl_read.proofs.reader.Reader.all_answers.Given as goal

abbrev pub invariant-clauses : goal.invariant-clauses
invariant-clauses l = with_front l.clauses (many (is_word (codes "answers")) (answers_at l.version) l.self) ≡ many (is_word (codes "answers")) (answers_at l.version) l.fn.self

abbrev pub decreases-clauses : goal.decreases-clauses
decreases-clauses l = length l.self
