use Rattle.hs_base.specs.Bounds.{apart}
use Rattle.hs_base.specs.Ranges.{whole}
use Rattle.token_net.proofs.ItemLemmas.{flat_numbers, grown}
use Rattle.token_net.proofs.items.add_points.Goals as goal

pub loop-x-preserved : goal.loop-x-preserved
loop-x-preserved c = grown _ _ _ _ _ _ c.in_ok-add_apart.ensures c.loop-x.invariant (flat_numbers (λ y. apart y 0 whole) c.args.first c.loop-x.x c.loop-x.auto.x)
