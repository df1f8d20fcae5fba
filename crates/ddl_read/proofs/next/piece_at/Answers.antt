use Rattle.std.proofs.Common.{◌∙◌, sym, arith}
use Rattle.hs_texts.specs.Pieces.{is_letter}
use Rattle.ddl_read.proofs.ByteLemmas.{begins_run}
use Rattle.ddl_read.proofs.next.piece_at.Goals as goal

pub returns-then-is_letter-clause-longest : goal.returns-then-is_letter-clause-longest
returns-then-is_letter-clause-longest c =
    (begins_run is_letter c.args.text.now c.args.at c.word_end.result (omega arith) (omega arith) ∙ (sym c.is_letter.ensures ∙ c.if-is_letter.true), c.word_end.ensures.run, c.word_end.ensures.longest)
