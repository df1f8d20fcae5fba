use Rattle.std.proofs.Common.{◌≡◌, ◌-◌, ◌++◌}
use Rattle.std.specs.Prelude.{flat_map}
use Rattle.hs_base.specs.Schedule.{numbers_from}
use Rattle.token_net.specs.Items.{since_item}
use Rattle.token_net.proofs.items.add_since.Given as goal

abbrev pub invariant-loop-x : goal.invariant-loop-x
invariant-loop-x l = l.made ≡ l.initial.made ++ flat_map (since_item l.index l.since) (numbers_from 1 (l.x - 1))
