use Rattle.std.proofs.Common.{◌≡◌, ◌++◌, take}
use Rattle.token_net.specs.Items.{length_items}
use Rattle.token_net.proofs.items.add_lengths.Given as goal

abbrev pub invariant-loop-token : goal.invariant-loop-token
invariant-loop-token l = l.made ≡ l.initial.made ++ length_items l.mission l.index (take l.token-index l.new)
