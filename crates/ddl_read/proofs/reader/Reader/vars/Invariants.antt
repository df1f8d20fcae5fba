use Rattle.std.proofs.Common.{◌≡◌, length}
use Rattle.std.specs.Prelude.{codes}
use Rattle.text_laws.specs.Parsers.{is_word, many, several}
use Rattle.text_laws.specs.MissionReading.{var_at}
use Rattle.ddl_read.specs.Loops.{with_front}
use Rattle.ddl_read.proofs.reader.Reader.vars.Given as goal

abbrev pub invariant-vars : goal.invariant-vars
invariant-vars l = with_front l.vars (many (is_word (codes "var")) (var_at l.version) l.self) ≡ several "var" (var_at l.version) l.fn.self

abbrev pub decreases-vars : goal.decreases-vars
decreases-vars l = length l.self
