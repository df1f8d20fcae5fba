use Rattle.std.proofs.Common.{◌≡◌, ◌++◌, take}
use Rattle.token_net.specs.Items.{start_items}
use Rattle.token_net.proofs.items.add_starts.Given as goal

abbrev pub invariant-loop-token : goal.invariant-loop-token
invariant-loop-token l = l.made ≡ l.initial.made ++ start_items l.index l.mark.0 (take l.token-index l.new)
