use Rattle.std.proofs.Common.{◌≡◌, ◌++◌, take}
use Rattle.hs_base.specs.Bounds.{fixed_bounds}
use Rattle.timeline_db.proofs.opening.push_fixed.Given as goal

abbrev pub invariant-loop-time : goal.invariant-loop-time
invariant-loop-time l = l.made.items ≡ l.initial.made.items ++ fixed_bounds (take l.time-index l.times)
