use Rattle.std.proofs.Common.{refl}
use Rattle.ddl_read.proofs.CutLemmas.{bad_number, is_cut}
use Rattle.ddl_read.proofs.pieces.Pieces.cut.Goals as goal

pub returns-in-Some : goal.returns-in-Some
returns-in-Some c = (c.if-text-gt-TEXT_BYTES.false, c.in_ok-check_utf8.ensures.ok, bad_number c.args.text.now c.in_ok-pieces.pieces c.in-Some.at c.in_ok-pieces.ensures.ok c.in-Some.ensures)

pub invariant_of-result : goal.invariant_of-result
invariant_of-result c = is_cut c.args.text.now c.in_ok-pieces.pieces c.if-text-gt-TEXT_BYTES.false c.in_ok-check_utf8.ensures.ok c.in_ok-pieces.ensures.ok c.in_default.ensures

pub returns : goal.returns
returns c = (refl, is_cut c.args.text.now c.in_ok-pieces.pieces c.if-text-gt-TEXT_BYTES.false c.in_ok-check_utf8.ensures.ok c.in_ok-pieces.ensures.ok c.in_default.ensures)
