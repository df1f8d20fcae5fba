use Rattle.std.proofs.Common.{◌≡◌, ◌∙◌, sym, refl, arith, w64, FitsSigned, of_z, Some, None}
use Rattle.std.specs.Prelude.{◌+ℤ◌}
use Rattle.std.proofs.lemmas.Int.{ints, to_z-of_z}
use Rattle.net_laws.proofs.BetweenLemmas.{eq_int_eq}
use Rattle.dispatcher.specs.Marks.{leader_time}
use Rattle.dispatcher.proofs.FiringLemmas.{same_bits}
use Rattle.dispatcher.proofs.marks.holder.Goals as goal

pub overflow_add-at : goal.overflow_add-at
overflow_add-at c =
    let t = c.requires.timed.times c.args.edge.from.0 c.in-Some-time.at (sym c.time-in-None.ensures ∙ c.in-Some-time.is) in
    let f : FitsSigned w64 c.in-Some-time.at = omega (arith, ints, t.low, t.high) in
    let g : FitsSigned w64 c.args.edge.most = omega (arith, ints, c.requires.edge.low, c.requires.edge.high) in
    rw (to_z-of_z w64 c.in-Some-time.at f, to_z-of_z w64 c.args.edge.most g) (omega (arith, ints, t.low, t.high, c.requires.edge.low, c.requires.edge.high))

pub returns-in-Some-time : goal.returns-in-Some-time
returns-in-Some-time c =
    let t = c.requires.timed.times c.args.edge.from.0 c.in-Some-time.at (sym c.time-in-None.ensures ∙ c.in-Some-time.is) in
    let f : FitsSigned w64 c.in-Some-time.at = omega (arith, ints, t.low, t.high) in
    let g : FitsSigned w64 c.args.edge.most = omega (arith, ints, c.requires.edge.low, c.requires.edge.high) in
    let h : FitsSigned w64 (c.in-Some-time.at +ℤ c.args.edge.most) = omega (arith, ints, t.low, t.high, c.requires.edge.low, c.requires.edge.high) in
    let test : of_z w64 (c.in-Some-time.at +ℤ c.args.edge.most) ≡ of_z w64 c.args.now = rw (to_z-of_z w64 c.in-Some-time.at f, to_z-of_z w64 c.args.edge.most g) at c.if-at-edge.true in
    let same = same_bits (c.in-Some-time.at +ℤ c.args.edge.most) c.args.now h c.ranges.now test in
    let to : leader_time c.args.windows.now c.args.places.now c.args.edge.to.0 ≡ None = sym c.time.ensures ∙ c.in-None.is in
    let from : leader_time c.args.windows.now c.args.places.now c.args.edge.from.0 ≡ Some c.in-Some-time.at = sym c.time-in-None.ensures ∙ c.in-Some-time.is in
    rw (to, from, eq_int_eq _ _ same) refl
