use Rattle.std.proofs.Common.{◌≡◌, ◌∙◌, ap, sym, subst, arith, w64, FitsSigned, of_z}
use Rattle.std.specs.Prelude.{◌+ℤ◌}
use Rattle.std.proofs.lemmas.Int.{ints, to_z-of_z}
use Rattle.dispatcher.specs.State.{State, IsLawful}
use Rattle.dispatcher.proofs.InsideLemmas.{tick_fits}
use Rattle.dispatcher.proofs.FiringLemmas.{set_within, place_within, same_bits}
use Rattle.dispatcher.proofs.HoldingLemmas.{set_held, set_free}
use Rattle.dispatcher.proofs.course.Course.holder_in_set.Goals as goal

pub overflow_add-at : goal.overflow_add-at
overflow_add-at c =
    let s = c.args.self.now in
    let law : IsLawful s = subst IsLawful c.self.view_is c.self.invariant.state in
    let t = set_within s law c.args.place.group c.args.at c.requires.place.within c.requires.set in
    let o = place_within s law c.args.x c.args.place c.requires.place in
    let f : FitsSigned w64 c.args.at = omega (arith, ints, t.low, t.high) in
    let g : FitsSigned w64 c.args.place.offset = omega (arith, ints, o.low, o.high) in
    rw (to_z-of_z w64 c.args.at f, to_z-of_z w64 c.args.place.offset g) (omega (arith, ints, t.low, t.high, o.low, o.high))

pub returns-then-self-at : goal.returns-then-self-at
returns-then-self-at c =
    let s = c.args.self.now in
    let law : IsLawful s = subst IsLawful c.self.view_is c.self.invariant.state in
    let t = set_within s law c.args.place.group c.args.at c.requires.place.within c.requires.set in
    let o = place_within s law c.args.x c.args.place c.requires.place in
    let f : FitsSigned w64 c.args.at = omega (arith, ints, t.low, t.high) in
    let g : FitsSigned w64 c.args.place.offset = omega (arith, ints, o.low, o.high) in
    let h : FitsSigned w64 (c.args.at +ℤ c.args.place.offset) = omega (arith, ints, t.low, t.high, o.low, o.high) in
    let test : of_z w64 c.self.inside.tick ≡ of_z w64 (c.args.at +ℤ c.args.place.offset) = rw (to_z-of_z w64 c.args.at f, to_z-of_z w64 c.args.place.offset g) at c.if-self-at.true in
    let same = same_bits (c.args.at +ℤ c.args.place.offset) c.self.inside.tick h (tick_fits c.self.inside c.self.invariant) (sym test) in
    set_held s law c.args.x c.args.place c.requires.place c.args.at c.requires.set (same ∙ ap (λ (z : State). z.tick) c.self.view_is) c.known_in.result (c.known_in.ensures c.args.at c.requires.set)

pub returns : goal.returns
returns c =
    let s = c.args.self.now in
    let law : IsLawful s = subst IsLawful c.self.view_is c.self.invariant.state in
    let t = set_within s law c.args.place.group c.args.at c.requires.place.within c.requires.set in
    let o = place_within s law c.args.x c.args.place c.requires.place in
    let f : FitsSigned w64 c.args.at = omega (arith, ints, t.low, t.high) in
    let g : FitsSigned w64 c.args.place.offset = omega (arith, ints, o.low, o.high) in
    let other : c.args.at +ℤ c.args.place.offset ≡ s.tick → ⊥ = λ e. c.if-self-at.false (rw (to_z-of_z w64 c.args.at f, to_z-of_z w64 c.args.place.offset g) (ap (of_z w64) (ap (λ (z : State). z.tick) c.self.view_is ∙ sym e))) in
    set_free s law c.args.x c.args.place c.requires.place c.args.at c.requires.set other
