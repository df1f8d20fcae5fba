use Rattle.stn_distance.proofs.RowLemmas.{Returns-start}
use Rattle.stn_distance.proofs.column.column_of.Goals as goal

pub turns-init : goal.turns-init
turns-init c = rw (c.in_ok-column.ensures.items_if_clones_equal (λ _ x. x)) (Returns-start c.args.count c.args.bounds.now c.requires.stays)
