use Rattle.std.proofs.Common.{◌≡◌, to_z, of_z, w64, sym, arith}
use Rattle.std.proofs.lemmas.Int.{ints}
use Rattle.stn_distance.specs.Distances.{weight}
use Rattle.rigid_contract.proofs.AmongLemmas.{members_more}
use Rattle.rigid_contract.proofs.groups.members_of.Goals as goal

pub loop-q-preserved : goal.loop-q-preserved
loop-q-preserved c =
    let near = c.at-offset.ensures.near in let low = near.0 in let high = near.1 in
    let offset : to_z w64 (of_z w64 c.at-offset.result) ≡ c.at-offset.result = omega (arith, ints) in
    rw (c.in_ok-push_member_if.ensures, c.is_member-wanted.ensures, offset, c.at-offset.ensures.weight, c.loop-q.invariant)
    (sym (members_more (weight c.args.dist.now) c.args.points.now c.args.p c.loop-q.q-index 0 (omega arith)))
