use Rattle.std.proofs.Common.{◌≡◌, ◌++◌, take}
use Rattle.token_net.specs.Items.{goal_items}
use Rattle.token_net.proofs.items.add_goals.Given as goal

abbrev pub invariant-loop-i : goal.invariant-loop-i
invariant-loop-i l = l.made ≡ l.initial.made ++ goal_items l.index (take l.i l.goals) (take l.i l.entries)
