use Rattle.std.proofs.Common.{◌≡◌, length}
use Rattle.std.specs.Str.{byte}
use Rattle.text_laws.specs.Parsers.{many, is_sign, behind}
use Rattle.text_laws.specs.MissionReading.{use_at, uses_at}
use Rattle.ddl_read.specs.Loops.{with_front}
use Rattle.ddl_read.proofs.reader.Reader.uses.Given as goal

abbrev pub invariant-uses : goal.invariant-uses
invariant-uses l = with_front l.uses (many (is_sign (byte ",")) (behind "," (use_at l.version)) l.self) ≡ uses_at l.version l.fn.self

abbrev pub decreases-uses : goal.decreases-uses
decreases-uses l = length l.self
