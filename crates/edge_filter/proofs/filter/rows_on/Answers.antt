use Rattle.edge_filter.proofs.MarkLemmas.{leaders_below}
use Rattle.edge_filter.proofs.filter.rows_on.Goals as goal

pub weights_between-requires : goal.weights_between-requires
weights_between-requires c = leaders_below c.args.dist.now c.args.leaders.now c.requires.leaders
