use Rattle.std.proofs.Common.{◌≡◌, take}
use Rattle.stn_distance.specs.Distances.{weight}
use Rattle.rigid_contract.specs.Among.{members_among}
use Rattle.rigid_contract.proofs.groups.members_of.Given as goal

abbrev pub invariant-loop-q : goal.invariant-loop-q
invariant-loop-q l = l.members.items ≡ members_among (weight l.dist) (take l.q-index l.points) l.p
