use Rattle.token_net.specs.Items.{last_item}
use Rattle.token_net.proofs.ItemLemmas.{flat_counted, grown}
use Rattle.token_net.proofs.items.add_lasts.Goals as goal

pub loop-v-preserved : goal.loop-v-preserved
loop-v-preserved c = grown _ _ _ _ _ _ c.in_ok-add_last.ensures c.loop-v.invariant (flat_counted (last_item c.args.index.now c.args.mark.0) c.loop-v.v)
