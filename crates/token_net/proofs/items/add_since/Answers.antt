use Rattle.std.proofs.Common.{to_z, of_z, w64}
use Rattle.token_net.specs.Items.{since_item}
use Rattle.token_net.proofs.ItemLemmas.{flat_numbers, grown}
use Rattle.token_net.proofs.items.add_since.Goals as goal

pub loop-x-preserved : goal.loop-x-preserved
loop-x-preserved c =
    grown _ _ _ _ _ _ c.in_ok-add_since_at.ensures c.loop-x.invariant
    (flat_numbers (since_item c.args.index.now (to_z w64 (of_z w64 c.args.since))) 1 c.loop-x.x c.loop-x.auto.x)
