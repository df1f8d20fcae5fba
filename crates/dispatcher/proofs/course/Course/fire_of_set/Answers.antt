use Rattle.std.proofs.Common.{◌≡◌, ◌∙◌, ap, sym, subst, arith, w64, FitsSigned, to_z, of_z}
use Rattle.std.specs.Prelude.{◌+ℤ◌, ◌-ℤ◌}
use Rattle.std.proofs.lemmas.Int.{ints, to_z-of_z}
use Rattle.hs_base.specs.Moments.{Bars}
use Rattle.dispatcher.specs.State.{State, IsLawful, moment}
use Rattle.dispatcher.proofs.InsideLemmas.{tick_fits}
use Rattle.dispatcher.proofs.FiringLemmas.{set_within, place_within, known_within, same_bits, set_may, set_bars}
use Rattle.dispatcher.proofs.course.Course.fire_of_set.Goals as goal

pub overflow_add-at : goal.overflow_add-at
overflow_add-at c =
    let s = c.args.self.now in
    let law : IsLawful s = subst IsLawful c.self.view_is c.self.invariant.state in
    let t = set_within s law c.args.place.group c.args.at c.requires.place.within c.requires.set in
    let o = place_within s law c.args.p.0 c.args.place c.requires.place in
    let f : FitsSigned w64 c.args.at = omega (arith, ints, t.low, t.high) in
    let g : FitsSigned w64 c.args.place.offset = omega (arith, ints, o.low, o.high) in
    rw (to_z-of_z w64 c.args.at f, to_z-of_z w64 c.args.place.offset g) (omega (arith, ints, t.low, t.high, o.low, o.high))

pub returns-then-self-at : goal.returns-then-self-at
returns-then-self-at c =
    let s = c.args.self.now in
    let law : IsLawful s = subst IsLawful c.self.view_is c.self.invariant.state in
    let t = set_within s law c.args.place.group c.args.at c.requires.place.within c.requires.set in
    let o = place_within s law c.args.p.0 c.args.place c.requires.place in
    let f : FitsSigned w64 c.args.at = omega (arith, ints, t.low, t.high) in
    let g : FitsSigned w64 c.args.place.offset = omega (arith, ints, o.low, o.high) in
    let h : FitsSigned w64 (c.args.at +ℤ c.args.place.offset) = omega (arith, ints, t.low, t.high, o.low, o.high) in
    let test : of_z w64 c.self.inside.tick ≡ of_z w64 (c.args.at +ℤ c.args.place.offset) = rw (to_z-of_z w64 c.args.at f, to_z-of_z w64 c.args.place.offset g) at c.if-self-at.true in
    let same = sym (same_bits c.self.inside.tick (c.args.at +ℤ c.args.place.offset) (tick_fits c.self.inside c.self.invariant) h test) in
    set_may s law c.args.p.0 c.requires.open c.args.place c.requires.place c.args.at c.requires.set (same ∙ ap (λ (z : State). z.tick) c.self.view_is)

pub overflow_sub-result : goal.overflow_sub-result
overflow_sub-result c =
    let s = c.args.self.now in
    let law : IsLawful s = subst IsLawful c.self.view_is c.self.invariant.state in
    let m = c.known_in-known.result in
    let o = place_within s law c.args.p.0 c.args.place c.requires.place in
    let q = known_within s law c.args.place.group c.args.at m c.requires.place.within (c.known_in-known.ensures c.args.at c.requires.set) in
    let f : FitsSigned w64 m.offset = omega (arith, ints, q.low, q.high) in
    let g : FitsSigned w64 c.args.place.offset = omega (arith, ints, o.low, o.high) in
    rw (to_z-of_z w64 m.offset f, to_z-of_z w64 c.args.place.offset g) (omega (arith, ints, q.low, q.high, o.low, o.high))

pub returns : goal.returns
returns c =
    let s = c.args.self.now in
    let law : IsLawful s = subst IsLawful c.self.view_is c.self.invariant.state in
    let m = c.known_in-known.result in
    let t = set_within s law c.args.place.group c.args.at c.requires.place.within c.requires.set in
    let o = place_within s law c.args.p.0 c.args.place c.requires.place in
    let q = known_within s law c.args.place.group c.args.at m c.requires.place.within (c.known_in-known.ensures c.args.at c.requires.set) in
    let fa : FitsSigned w64 c.args.at = omega (arith, ints, t.low, t.high) in
    let f : FitsSigned w64 m.offset = omega (arith, ints, q.low, q.high) in
    let g : FitsSigned w64 c.args.place.offset = omega (arith, ints, o.low, o.high) in
    let h : FitsSigned w64 (m.offset -ℤ c.args.place.offset) = omega (arith, ints, q.low, q.high, o.low, o.high) in
    let other : c.args.at +ℤ c.args.place.offset ≡ s.tick → ⊥ = λ e. c.if-self-at.false (rw (to_z-of_z w64 c.args.at fa, to_z-of_z w64 c.args.place.offset g) (ap (of_z w64) (ap (λ (z : State). z.tick) c.self.view_is ∙ sym e))) in
    let same : to_z w64 (of_z w64 (to_z w64 (of_z w64 m.offset) -ℤ to_z w64 (of_z w64 c.args.place.offset))) ≡ m.offset -ℤ c.args.place.offset = rw (to_z-of_z w64 m.offset f, to_z-of_z w64 c.args.place.offset g) (to_z-of_z w64 (m.offset -ℤ c.args.place.offset) h) in
    let b = set_bars s law c.args.p.0 c.requires.open c.args.place c.requires.place c.args.at c.requires.set m (c.known_in-known.ensures c.args.at c.requires.set) other in
    subst (λ z. Bars (moment s) c.args.p.0 (record { from = c.args.p; to = m.point; most = z })) (sym same) b
