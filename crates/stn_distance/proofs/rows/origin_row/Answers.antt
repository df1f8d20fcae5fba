use Rattle.std.proofs.Common.{sym, subst, arith}
use Rattle.std.proofs.lemmas.List.{take_at}
use Rattle.stn_distance.specs.Rows.{IsRow}
use Rattle.stn_distance.proofs.rows.origin_row.Goals as goal

pub returns : goal.returns
returns c =
    let h = c.settle.ensures in let len = h.row_len in
    let was = c.in_ok-row.ensures.row_len in let held = c.in_ok-row.row.ok.0 in
    subst (IsRow c.args.count c.args.bounds.now 0) (sym (take_at c.settle.new.row _ _ (omega arith))) h
