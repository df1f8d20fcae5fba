use Rattle.std.proofs.Common.{◌≡◌, length}
use Rattle.std.specs.Prelude.{codes}
use Rattle.text_laws.specs.Parsers.{is_word, many}
use Rattle.ddl_read.specs.Loops.{with_front}
use Rattle.plan_text.specs.PlanReading.{new_token_at}
use Rattle.plan_text.proofs.reader.PlanReader.new_tokens.Given as goal

abbrev pub invariant-tokens : goal.invariant-tokens
invariant-tokens l = with_front l.tokens (many (is_word (codes "token")) new_token_at l.self) ≡ many (is_word (codes "token")) new_token_at l.fn.self

abbrev pub decreases-tokens : goal.decreases-tokens
decreases-tokens l = length l.self
