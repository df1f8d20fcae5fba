use Rattle.std.proofs.Common.{arith, w64, FitsSigned, ◌+ℤ◌}
use Rattle.std.proofs.lemmas.Int.{ints, to_z-of_z}
use Rattle.std.proofs.lemmas.Grind.{common_steps}
use Rattle.local_propagate.proofs.windows.lower_one.Goals as goal

pub returns-then-is_none : goal.returns-then-is_none
returns-then-is_none c =
    let near = c.requires.near in
    let f : FitsSigned w64 (c.args.at +ℤ c.args.next.most) = omega (arith, ints, near.low, near.high, c.requires.at_from, c.requires.at_to) in
    grind (arith, common_steps, to_z-of_z, f, c.set.ensures, c.if-is_none.true)
