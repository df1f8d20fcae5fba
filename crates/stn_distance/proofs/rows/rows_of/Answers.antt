use Rattle.std.proofs.Common.{subst, sym, Vec, ℤ, Global, arith, ◌∙◌}
use Rattle.std.proofs.lemmas.List.{length-map, length_push}
use Rattle.stn_distance.specs.Rows.{IsRow}
use Rattle.stn_distance.proofs.RowLemmas.{items_of-more}
use Rattle.stn_distance.proofs.rows.rows_of.Goals as goal

pub loop-source-preserved : goal.loop-source-preserved
loop-source-preserved c =
    let h = c.loop-source.invariant in let len = h.rows_len in
    let pushed = c.in_ok-push.ensures.items in
    rw pushed (record {
      rows_len = omega (arith, length_push c.loop-source.rows.items c.in_ok-row.row);
      each = items_of-more (IsRow c.args.n c.args.bounds.now) c.loop-source.rows.items c.in_ok-row.row c.loop-source.source len h.each c.in_ok-row.ensures;
    })

pub returns : goal.returns
returns c =
    let h = c.loop-source.invariant in let len = h.rows_len in
    record { rows_len = length-map c.loop-source.rows.items (λ (row : Vec ℤ Global). row.items) ∙ omega arith; each = λ p l. h.each p (omega arith) }

pub row_from-requires-clause-origin : goal.row_from-requires-clause-origin
row_from-requires-clause-origin c = subst (IsRow c.args.n c.args.bounds.now 0) (sym c.deref-in-loop-source-2.ensures.value) c.in_ok-origin.ensures
