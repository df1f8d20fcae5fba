use Rattle.std.proofs.Common.{◌≡◌, length}
use Rattle.std.specs.Prelude.{codes}
use Rattle.text_laws.specs.Parsers.{is_word, many}
use Rattle.text_laws.specs.MissionReading.{goal_at}
use Rattle.ddl_read.specs.Loops.{with_front}
use Rattle.ddl_read.proofs.reader.Reader.goals.Given as goal

abbrev pub invariant-goals : goal.invariant-goals
invariant-goals l = with_front l.goals (many (is_word (codes "goal")) (goal_at l.version) l.self) ≡ many (is_word (codes "goal")) (goal_at l.version) l.fn.self

abbrev pub decreases-goals : goal.decreases-goals
decreases-goals l = length l.self
