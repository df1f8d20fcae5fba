use Rattle.std.proofs.Common.{sym, ◌∙◌, arith}
use Rattle.hs_texts.specs.Pieces.{is_word_byte}
use Rattle.ddl_read.proofs.ByteLemmas.{run_more}
use Rattle.ddl_read.proofs.bytes.word_end.Goals as goal

pub word-preserved : goal.word-preserved
word-preserved c = run_more is_word_byte c.args.text.now c.args.at c.word.end (omega arith) (omega arith) c.word.invariant (sym c.is_word_byte.ensures ∙ c.if-not-is_word_byte.false)
