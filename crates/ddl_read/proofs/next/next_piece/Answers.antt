use Rattle.std.proofs.Common.{refl, arith}
use Rattle.ddl_read.proofs.CutLemmas.{piece_ends, bad_stands}
use Rattle.ddl_read.proofs.next.next_piece.Goals as goal

pub returns-in-Some : goal.returns-in-Some
returns-in-Some c =
    let e = c.in-Some.ensures in
    piece_ends c.args.text.now c.args.from c.gap_end-at.result c.in-Some.end c.in-Some.kind c.gap_end-at.ensures.gap c.gap_end-at.ensures.after e.after e.within e.bytes e.longest e.kept

pub returns-in-None : goal.returns-in-None
returns-in-None c = bad_stands c.args.text.now c.args.from c.gap_end-at.result c.gap_end-at.ensures.gap (omega arith) (c.in-None.ensures.none refl)
