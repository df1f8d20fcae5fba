use Rattle.std.proofs.Common.{◌≡◌, length}
use Rattle.std.specs.Str.{byte}
use Rattle.text_laws.specs.Parsers.{apart, behind, is_sign, many}
use Rattle.text_laws.specs.MissionReading.{part_at}
use Rattle.ddl_read.specs.Loops.{with_front}
use Rattle.ddl_read.proofs.reader.Reader.parts.Given as goal

abbrev pub invariant-parts : goal.invariant-parts
invariant-parts l = with_front l.parts (many (is_sign (byte ";")) (behind ";" (part_at l.version)) l.self) ≡ apart ";" (part_at l.version) l.fn.self

abbrev pub decreases-parts : goal.decreases-parts
decreases-parts l = length l.self
