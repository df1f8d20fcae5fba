use Rattle.std.proofs.Common.{◌≡◌, length}
use Rattle.std.specs.Prelude.{codes}
use Rattle.text_laws.specs.Parsers.{after, is_word, many}
use Rattle.text_laws.specs.MissionReading.{choice_at}
use Rattle.ddl_read.specs.Loops.{with_front}
use Rattle.ddl_read.proofs.reader.Reader.more_choices.Given as goal

abbrev pub invariant-choices : goal.invariant-choices
invariant-choices l = with_front l.choices (many (is_word (codes "or")) (after "or" (choice_at l.version)) l.self) ≡ many (is_word (codes "or")) (after "or" (choice_at l.version)) l.fn.self

abbrev pub decreases-choices : goal.decreases-choices
decreases-choices l = length l.self
