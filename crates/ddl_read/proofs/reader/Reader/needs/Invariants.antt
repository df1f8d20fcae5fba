use Rattle.std.proofs.Common.{◌≡◌, length}
use Rattle.std.specs.Prelude.{codes}
use Rattle.text_laws.specs.Parsers.{is_word, many}
use Rattle.text_laws.specs.MissionReading.{need_at}
use Rattle.ddl_read.specs.Loops.{with_front}
use Rattle.ddl_read.proofs.reader.Reader.needs.Given as goal

abbrev pub invariant-needs : goal.invariant-needs
invariant-needs l = with_front l.needs (many (is_word (codes "need")) (need_at l.version) l.self) ≡ many (is_word (codes "need")) (need_at l.version) l.fn.self

abbrev pub decreases-needs : goal.decreases-needs
decreases-needs l = length l.self
