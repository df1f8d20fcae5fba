use Rattle.std.proofs.Common.{◌≡◌, length}
use Rattle.std.specs.Prelude.{codes}
use Rattle.text_laws.specs.Parsers.{is_word, many}
use Rattle.ddl_read.specs.Loops.{with_front}
use Rattle.plan_text.specs.PlanReading.{support_at}
use Rattle.plan_text.proofs.reader.PlanReader.supports.Given as goal

abbrev pub invariant-supports : goal.invariant-supports
invariant-supports l = with_front l.supports (many (is_word (codes "support")) support_at l.self) ≡ many (is_word (codes "support")) support_at l.fn.self

abbrev pub decreases-supports : goal.decreases-supports
decreases-supports l = length l.self
