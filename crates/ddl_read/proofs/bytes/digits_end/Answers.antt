use Rattle.std.proofs.Common.{sym, ◌∙◌, arith}
use Rattle.hs_texts.specs.Pieces.{is_digit}
use Rattle.ddl_read.proofs.ByteLemmas.{run_more}
use Rattle.ddl_read.proofs.bytes.digits_end.Goals as goal

pub digits-preserved : goal.digits-preserved
digits-preserved c = run_more is_digit c.args.text.now c.args.at c.digits.end (omega arith) (omega arith) c.digits.invariant (sym c.is_digit.ensures ∙ c.if-not-is_digit.false)
