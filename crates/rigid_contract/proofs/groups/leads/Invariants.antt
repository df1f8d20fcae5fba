use Rattle.std.proofs.Common.{◌≡◌, take, true}
use Rattle.stn_distance.specs.Distances.{weight}
use Rattle.rigid_contract.specs.Among.{leads_among}
use Rattle.rigid_contract.proofs.groups.leads.Given as goal

abbrev pub invariant-loop-q : goal.invariant-loop-q
invariant-loop-q l = leads_among (weight l.dist) (take l.q-index l.points) l.p ≡ true
