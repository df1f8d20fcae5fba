use Rattle.std.proofs.Common.{◌≡◌, ◌++◌, take}
use Rattle.token_net.specs.Items.{support_items}
use Rattle.token_net.proofs.items.add_supports.Given as goal

abbrev pub invariant-loop-support : goal.invariant-loop-support
invariant-loop-support l = l.made ≡ l.initial.made ++ support_items l.mission l.index (take l.support-index l.supports)
