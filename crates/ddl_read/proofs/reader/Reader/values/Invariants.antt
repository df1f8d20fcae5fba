use Rattle.std.proofs.Common.{◌≡◌, length}
use Rattle.std.specs.Prelude.{codes}
use Rattle.text_laws.specs.Parsers.{is_word, many, several}
use Rattle.text_laws.specs.MissionReading.{value_at}
use Rattle.ddl_read.specs.Loops.{with_front}
use Rattle.ddl_read.proofs.reader.Reader.values.Given as goal

abbrev pub invariant-values : goal.invariant-values
invariant-values l = with_front l.values (many (is_word (codes "value")) (value_at l.version) l.self) ≡ several "value" (value_at l.version) l.fn.self

abbrev pub decreases-values : goal.decreases-values
decreases-values l = length l.self
