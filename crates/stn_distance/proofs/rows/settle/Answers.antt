use Rattle.stn_distance.proofs.RowLemmas.{IsRow-kept}
use Rattle.stn_distance.proofs.rows.settle.Goals as goal

pub returns : goal.returns
returns c =
    let done = rw c.turns-test.false at c.lower_row.ensures.settled in
    IsRow-kept c.args.count c.args.bounds.now c.args.source c.lower_row.new.row c.requires.source c.requires.sample c.lower_row.ensures.reaches done
