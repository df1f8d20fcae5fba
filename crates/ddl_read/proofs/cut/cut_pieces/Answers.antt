use Rattle.ddl_read.proofs.CutLemmas.{one_more}
use Rattle.ddl_read.proofs.cut.cut_pieces.Goals as goal

pub pieces-preserved : goal.pieces-preserved
pieces-preserved c = rw c.in_ok-push-in-Stands.ensures.ok (one_more c.args.text.now c.pieces.pieces c.pieces.from c.in-Stands.end c.in-Stands.piece c.pieces.invariant c.in-Stands.ensures)
