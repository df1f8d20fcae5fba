use Rattle.std.proofs.Common.{◌≡◌, ◌++◌, take}
use Rattle.stn_distance.specs.Distances.{weight}
use Rattle.rigid_contract.specs.Among.{groups_among}
use Rattle.rigid_contract.proofs.groups.push_groups.Given as goal

abbrev pub invariant-loop-p : goal.invariant-loop-p
invariant-loop-p l = l.groups.items ≡ l.initial.groups.items ++ groups_among (weight l.dist) l.points (take l.p-index l.points)
