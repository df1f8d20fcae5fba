use Rattle.std.proofs.Common.{refl, arith, w64, FitsSigned}
use Rattle.std.specs.Prelude.{◌+ℤ◌}
use Rattle.std.proofs.lemmas.Int.{ints, to_z-of_z}
use Rattle.dispatcher.proofs.waits.wait.Goals as goal

pub overflow_add-result : goal.overflow_add-result
overflow_add-result c =
    let t = c.requires.group c.in-None-Some.at c.in-None-Some.is-1 in
    let f : FitsSigned w64 c.in-None-Some.at = omega (arith, ints, t.low, t.high) in
    let g : FitsSigned w64 c.args.offset = omega (arith, ints, c.requires.offset.low, c.requires.offset.high) in
    rw (to_z-of_z w64 c.in-None-Some.at f, to_z-of_z w64 c.args.offset g) (omega (arith, ints, t.low, t.high, c.requires.offset.low, c.requires.offset.high))

pub returns-in-None-Some : goal.returns-in-None-Some
returns-in-None-Some c =
    let t = c.requires.group c.in-None-Some.at c.in-None-Some.is-1 in
    let f : FitsSigned w64 c.in-None-Some.at = omega (arith, ints, t.low, t.high) in
    let g : FitsSigned w64 c.args.offset = omega (arith, ints, c.requires.offset.low, c.requires.offset.high) in
    let h : FitsSigned w64 (c.in-None-Some.at +ℤ c.args.offset) = omega (arith, ints, t.low, t.high, c.requires.offset.low, c.requires.offset.high) in
    rw (to_z-of_z w64 c.in-None-Some.at f, to_z-of_z w64 c.args.offset g, to_z-of_z w64 (c.in-None-Some.at +ℤ c.args.offset) h, c.in-None-Some.is-0, c.in-None-Some.is-1) refl
