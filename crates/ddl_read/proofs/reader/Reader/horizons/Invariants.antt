use Rattle.std.proofs.Common.{◌≡◌, length}
use Rattle.std.specs.Prelude.{codes}
use Rattle.text_laws.specs.Parsers.{is_word, many, several}
use Rattle.text_laws.specs.MissionReading.{horizon_at}
use Rattle.ddl_read.specs.Loops.{with_front}
use Rattle.ddl_read.proofs.reader.Reader.horizons.Given as goal

abbrev pub invariant-horizons : goal.invariant-horizons
invariant-horizons l = with_front l.horizons (many (is_word (codes "horizon")) (horizon_at l.version) l.self) ≡ several "horizon" (horizon_at l.version) l.fn.self

abbrev pub decreases-horizons : goal.decreases-horizons
decreases-horizons l = length l.self
