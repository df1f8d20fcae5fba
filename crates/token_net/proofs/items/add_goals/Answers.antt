use Rattle.std.proofs.Common.{◌<◌, length, arith}
use Rattle.token_net.proofs.ItemLemmas.{goals_more_at, grown}
use Rattle.token_net.proofs.items.add_goals.Goals as goal

pub loop-i-preserved : goal.loop-i-preserved
loop-i-preserved c =
    let below : c.loop-i.i < length c.args.goals.now = omega arith in
    let under : c.loop-i.i < length c.args.entries.now = omega arith in
    grown _ _ _ _ _ _ c.in_ok-add_goal.ensures c.loop-i.invariant (goals_more_at c.args.index.now c.args.goals.now c.args.entries.now c.loop-i.i _ _ below under)
