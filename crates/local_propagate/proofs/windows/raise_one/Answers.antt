use Rattle.std.proofs.Common.{arith, w64, FitsSigned, ◌-ℤ◌}
use Rattle.std.proofs.lemmas.Int.{ints, to_z-of_z}
use Rattle.std.proofs.lemmas.Grind.{common_steps}
use Rattle.local_propagate.proofs.windows.raise_one.Goals as goal

pub returns : goal.returns
returns c =
    let near = c.requires.near in
    let f : FitsSigned w64 (c.args.at -ℤ c.args.last.most) = omega (arith, ints, near.low, near.high, c.requires.at_from, c.requires.at_to) in
    grind (arith, common_steps, to_z-of_z, f, c.max.ensures.value)
