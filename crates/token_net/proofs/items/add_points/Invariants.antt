use Rattle.std.proofs.Common.{◌≡◌, ◌-◌, ◌++◌}
use Rattle.hs_base.specs.Bounds.{point_bounds}
use Rattle.token_net.proofs.items.add_points.Given as goal

abbrev pub invariant-loop-x : goal.invariant-loop-x
invariant-loop-x l = l.made ≡ l.initial.made ++ point_bounds l.first (l.x - l.first)
