use Rattle.std.proofs.Common.{arith, w64, FitsSigned, length}
use Rattle.std.proofs.lemmas.Int.{ints, to_z-of_z}
use Rattle.std.proofs.lemmas.List.Elements.{All-head, All-tail}
use Rattle.dispatcher.specs.Places.{IsNearLeader}
use Rattle.dispatcher.proofs.ToldLemmas.{told_by_leader, told_after}
use Rattle.dispatcher.proofs.groups.told_by_group.Goals as goal

pub bounds : goal.bounds
bounds c = (All-head (IsNearLeader (length c.args.times.now)) _ _ c.requires.near).below

pub told_by_members-requires-clause-near : goal.told_by_members-requires-clause-near
told_by_members-requires-clause-near c = rw c.as_slice.ensures (All-tail (IsNearLeader (length c.args.times.now)) _ _ c.requires.near)

pub returns-in-Some : goal.returns-in-Some
returns-in-Some c =
    let time = c.requires.times c.args.group.now.leader.0 c.in-Some.at c.in-Some.is in
    let f : FitsSigned w64 c.in-Some.at = omega (arith, ints, time.0, time.1) in
    rw (to_z-of_z w64 c.in-Some.at f) (told_by_leader c.args.times.now c.args.group.now c.in-Some.at c.in-Some.is)

pub returns-in-None : goal.returns-in-None
returns-in-None c = told_after c.args.times.now c.args.group.now c.told_by_members.result c.in-None.is (rw c.as_slice.ensures at c.told_by_members.ensures)
