use Rattle.std.proofs.Common.{◌≡◌, ap, arith, length, w64, to_z, of_z}
use Rattle.std.proofs.lemmas.List.{length-set}
use Rattle.std.proofs.lemmas.List.Elements.{All-head, All-tail}
use Rattle.dispatcher.specs.Places.{IsNearLeader}
use Rattle.dispatcher.proofs.waits.wait_group.Goals as goal

pub set-requires : goal.set-requires
set-requires c = (All-head (IsNearLeader (length c.args.until.now)) _ _ c.requires.near).below

pub wait_members-requires-clause-near : goal.wait_members-requires-clause-near
wait_members-requires-clause-near c =
    let long = ap length c.set.ensures in
    let same : length c.set.new.self ≡ length c.args.until.now = omega (arith, long, length-set c.args.until.now c.args.group.now.leader.0 (to_z w64 (of_z w64 c.args.at))) in
    rw (same, c.as_slice.ensures) (All-tail (IsNearLeader (length c.args.until.now)) _ _ c.requires.near)
