use Rattle.std.proofs.Common.{◌≡◌, ◌++◌}
use Rattle.token_net.specs.Items.{last_items}
use Rattle.token_net.proofs.items.add_lasts.Given as goal

abbrev pub invariant-loop-v : goal.invariant-loop-v
invariant-loop-v l = l.made ≡ l.initial.made ++ last_items l.index l.mark.0 l.v
