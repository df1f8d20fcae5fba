use Rattle.std.proofs.Common.{◌≡◌, ◌++◌, take}
use Rattle.hs_base.specs.Bounds.{fixed_bounds}
use Rattle.token_net.proofs.items.add_fixed.Given as goal

abbrev pub invariant-loop-time : goal.invariant-loop-time
invariant-loop-time l = l.made ≡ l.initial.made ++ fixed_bounds (take l.time-index l.times)
