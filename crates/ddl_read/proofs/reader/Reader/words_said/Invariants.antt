use Rattle.std.proofs.Common.{◌≡◌, length}
use Rattle.std.specs.Str.{byte}
use Rattle.text_laws.specs.Parsers.{apart, behind, is_sign, many}
use Rattle.text_laws.specs.MissionReading.{said_at}
use Rattle.ddl_read.specs.Loops.{with_front}
use Rattle.ddl_read.proofs.reader.Reader.words_said.Given as goal

abbrev pub invariant-words : goal.invariant-words
invariant-words l = with_front l.words (many (is_sign (byte ",")) (behind "," (said_at l.version)) l.self) ≡ apart "," (said_at l.version) l.fn.self

abbrev pub decreases-words : goal.decreases-words
decreases-words l = length l.self
