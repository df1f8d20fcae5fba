use Rattle.std.proofs.Common.{ap, set, pos}
use Rattle.stn_distance.proofs.RowLemmas.{Reaches-start}
use Rattle.stn_distance.proofs.rows.fresh_row.Goals as goal

pub returns : goal.returns
returns c =
    let e = c.in_ok-row.ensures.items_if_clones_equal (λ _ x. x) in
    Reaches-start c.args.count c.args.bounds.now c.args.source _ c.requires.stays c.requires.source (ap (λ xs. set xs c.args.source (pos 0)) e)
