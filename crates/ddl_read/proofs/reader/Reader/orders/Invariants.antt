use Rattle.std.proofs.Common.{◌≡◌, length}
use Rattle.std.specs.Prelude.{codes}
use Rattle.text_laws.specs.Parsers.{is_word, many}
use Rattle.text_laws.specs.MissionReading.{do_at}
use Rattle.ddl_read.specs.Loops.{with_front}
use Rattle.ddl_read.proofs.reader.Reader.orders.Given as goal

abbrev pub invariant-orders : goal.invariant-orders
invariant-orders l = with_front l.orders (many (is_word (codes "do")) (do_at l.version) l.self) ≡ many (is_word (codes "do")) (do_at l.version) l.fn.self

abbrev pub decreases-orders : goal.decreases-orders
decreases-orders l = length l.self
