use Rattle.std.proofs.Common.{◌≡◌, arith, pos, w64, FitsSigned, to_z, of_z, get_or}
use Rattle.std.specs.Prelude.{◌-ℤ◌}
use Rattle.std.proofs.lemmas.Int.{ints, to_z-of_z}
use Rattle.hs_base.specs.declared.net.Member.{Member}
use Rattle.dispatcher.proofs.ToldLemmas.{told_here}
use Rattle.dispatcher.proofs.groups.told_by_members.Goals as goal

pub overflow_sub-result : goal.overflow_sub-result
overflow_sub-result c =
    let d : Member = record { point = record { 0 = 0 }; offset = pos 0 } in
    let k = c.loop-member.member-index in
    let m : Member = get_or c.args.members.now k d in
    let near = c.requires.near k d c.loop-member-test.true in
    let time = c.requires.times m.point.0 c.in-Some.at c.in-Some.is in
    let f : FitsSigned w64 c.in-Some.at = omega (arith, ints, time.0, time.1) in
    let g : FitsSigned w64 m.offset = omega (arith, ints, near.low, near.high) in
    let h : FitsSigned w64 (c.in-Some.at -ℤ m.offset) = omega (arith, ints, time.0, time.1, near.low, near.high) in
    rw (to_z-of_z w64 c.in-Some.at f, to_z-of_z w64 m.offset g) h

pub returns-in-Some : goal.returns-in-Some
returns-in-Some c =
    let d : Member = record { point = record { 0 = 0 }; offset = pos 0 } in
    let k = c.loop-member.member-index in
    let m : Member = get_or c.args.members.now k d in
    let near = c.requires.near k d c.loop-member-test.true in
    let time = c.requires.times m.point.0 c.in-Some.at c.in-Some.is in
    let f : FitsSigned w64 c.in-Some.at = omega (arith, ints, time.0, time.1) in
    let g : FitsSigned w64 m.offset = omega (arith, ints, near.low, near.high) in
    let h : FitsSigned w64 (c.in-Some.at -ℤ m.offset) = omega (arith, ints, time.0, time.1, near.low, near.high) in
    let same : to_z w64 (of_z w64 (to_z w64 (of_z w64 c.in-Some.at) -ℤ to_z w64 (of_z w64 m.offset))) ≡ c.in-Some.at -ℤ m.offset = rw (to_z-of_z w64 c.in-Some.at f, to_z-of_z w64 m.offset g) (to_z-of_z w64 (c.in-Some.at -ℤ m.offset) h) in
    rw same (told_here c.args.times.now c.args.members.now k d c.in-Some.at c.loop-member-test.true c.loop-member.invariant c.in-Some.is)
