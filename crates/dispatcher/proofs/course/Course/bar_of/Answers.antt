use Rattle.std.proofs.Common.{◌≡◌, ◌∙◌, ap, sym, subst, arith, pos, w64, FitsSigned, to_z, of_z, get_or}
use Rattle.std.specs.Prelude.{◌+ℤ◌, ◌-ℤ◌, ◌<ℤ◌}
use Rattle.std.proofs.lemmas.Int.{ints, to_z-of_z}
use Rattle.hs_base.specs.declared.net.Group.{Group}
use Rattle.net_laws.proofs.BetweenLemmas.{int_le-true, int_le-false}
use Rattle.hs_base.specs.Moments.{Bars}
use Rattle.dispatcher.specs.State.{State, IsLawful, moment}
use Rattle.dispatcher.specs.Edges.{IsSetAt}
use Rattle.dispatcher.proofs.InsideLemmas.{tick_fits}
use Rattle.dispatcher.proofs.FiringLemmas.{set_within, known_within, next_within, unset_bars, late_bars}
use Rattle.dispatcher.proofs.course.Course.bar_of.Goals as goal

pub overflow_sub-at : goal.overflow_sub-at
overflow_sub-at c =
    let s = c.args.self.now in
    let law : IsLawful s = subst IsLawful c.self.view_is c.self.invariant.state in
    let r = next_within s law c.args.group c.args.next c.requires.next in
    let is_set : IsSetAt s c.args.next.group c.in-Some.at = λ g. sym (c.in-Some.ensures g) in
    let t = set_within s law c.args.next.group c.in-Some.at c.requires.next.within is_set in
    let f : FitsSigned w64 c.in-Some.at = omega (arith, ints, t.low, t.high) in
    let g : FitsSigned w64 c.args.next.most = omega (arith, ints, r.0, r.1) in
    rw (to_z-of_z w64 c.in-Some.at f, to_z-of_z w64 c.args.next.most g) (omega (arith, ints, t.low, t.high, r.0, r.1))

pub returns-then-self-at : goal.returns-then-self-at
returns-then-self-at c =
    let s = c.args.self.now in
    let law : IsLawful s = subst IsLawful c.self.view_is c.self.invariant.state in
    let r = next_within s law c.args.group c.args.next c.requires.next in
    let is_set : IsSetAt s c.args.next.group c.in-Some.at = λ g. sym (c.in-Some.ensures g) in
    let t = set_within s law c.args.next.group c.in-Some.at c.requires.next.within is_set in
    let f : FitsSigned w64 c.in-Some.at = omega (arith, ints, t.low, t.high) in
    let g : FitsSigned w64 c.args.next.most = omega (arith, ints, r.0, r.1) in
    let h : FitsSigned w64 (c.in-Some.at -ℤ c.args.next.most) = omega (arith, ints, t.low, t.high, r.0, r.1) in
    let tick : to_z w64 (of_z w64 c.self.inside.tick) ≡ s.tick = to_z-of_z w64 c.self.inside.tick (tick_fits c.self.inside c.self.invariant) ∙ ap (λ (z : State). z.tick) c.self.view_is in
    let same : to_z w64 (of_z w64 (to_z w64 (of_z w64 c.in-Some.at) -ℤ to_z w64 (of_z w64 c.args.next.most))) ≡ c.in-Some.at -ℤ c.args.next.most = rw (to_z-of_z w64 c.in-Some.at f, to_z-of_z w64 c.args.next.most g) (to_z-of_z w64 (c.in-Some.at -ℤ c.args.next.most) h) in
    let test = int_le-true (to_z w64 (of_z w64 (to_z w64 (of_z w64 c.in-Some.at) -ℤ to_z w64 (of_z w64 c.args.next.most)))) (to_z w64 (of_z w64 c.self.inside.tick)) c.if-self-at.true in
    record { lets = λ down d. (c.in-Some.at, is_set d, omega (arith, ints, test, same, tick)) }

pub overflow_add-result : goal.overflow_add-result
overflow_add-result c =
    let s = c.args.self.now in
    let law : IsLawful s = subst IsLawful c.self.view_is c.self.invariant.state in
    let m = c.known_in-known.result in
    let r = next_within s law c.args.group c.args.next c.requires.next in
    let is_set : IsSetAt s c.args.next.group c.in-Some.at = λ g. sym (c.in-Some.ensures g) in
    let q = known_within s law c.args.next.group c.in-Some.at m c.requires.next.within (c.known_in-known.ensures c.in-Some.at is_set) in
    let f : FitsSigned w64 m.offset = omega (arith, ints, q.low, q.high) in
    let g : FitsSigned w64 c.args.next.most = omega (arith, ints, r.0, r.1) in
    rw (to_z-of_z w64 m.offset f, to_z-of_z w64 c.args.next.most g) (omega (arith, ints, q.low, q.high, r.0, r.1))

pub returns-in-None : goal.returns-in-None
returns-in-None c =
    let s = c.args.self.now in
    let law : IsLawful s = subst IsLawful c.self.view_is c.self.invariant.state in
    let r = next_within s law c.args.group c.args.next c.requires.next in
    let g : FitsSigned w64 c.args.next.most = omega (arith, ints, r.0, r.1) in
    let most : to_z w64 (of_z w64 c.args.next.most) ≡ c.args.next.most = to_z-of_z w64 c.args.next.most g in
    let low = int_le-false (pos 0) (to_z w64 (of_z w64 c.args.next.most)) c.if-next-ge0.false in
    let down : c.args.next.most <ℤ pos 0 = omega (arith, ints, low, most) in
    let read : c.index.result.now ≡ get_or s.net.groups c.args.next.group c.index.result.now = c.index.ensures ∙ ap (λ (z : State). get_or z.net.groups c.args.next.group c.index.result.now) c.self.view_is in
    let b = unset_bars s law c.args.p.0 c.requires.open c.args.group c.requires.place c.args.next c.requires.next down c.index.result.now (sym (c.in-None.ensures c.index.result.now)) in
    rw most (subst (λ (z : Group). Bars (moment s) c.args.p.0 (record { from = c.args.p; to = z.leader; most = c.args.next.most })) (sym read) b)

pub returns-else-self-at : goal.returns-else-self-at
returns-else-self-at c =
    let s = c.args.self.now in
    let law : IsLawful s = subst IsLawful c.self.view_is c.self.invariant.state in
    let m = c.known_in-known.result in
    let r = next_within s law c.args.group c.args.next c.requires.next in
    let is_set : IsSetAt s c.args.next.group c.in-Some.at = λ g. sym (c.in-Some.ensures g) in
    let t = set_within s law c.args.next.group c.in-Some.at c.requires.next.within is_set in
    let known = c.known_in-known.ensures c.in-Some.at is_set in
    let q = known_within s law c.args.next.group c.in-Some.at m c.requires.next.within known in
    let fa : FitsSigned w64 c.in-Some.at = omega (arith, ints, t.low, t.high) in
    let f : FitsSigned w64 m.offset = omega (arith, ints, q.low, q.high) in
    let g : FitsSigned w64 c.args.next.most = omega (arith, ints, r.0, r.1) in
    let h : FitsSigned w64 (c.in-Some.at -ℤ c.args.next.most) = omega (arith, ints, t.low, t.high, r.0, r.1) in
    let e : FitsSigned w64 (c.args.next.most +ℤ m.offset) = omega (arith, ints, q.low, q.high, r.0, r.1) in
    let most : to_z w64 (of_z w64 c.args.next.most) ≡ c.args.next.most = to_z-of_z w64 c.args.next.most g in
    let low = int_le-false (pos 0) (to_z w64 (of_z w64 c.args.next.most)) c.if-next-ge0.false in
    let down : c.args.next.most <ℤ pos 0 = omega (arith, ints, low, most) in
    let tick : to_z w64 (of_z w64 c.self.inside.tick) ≡ s.tick = to_z-of_z w64 c.self.inside.tick (tick_fits c.self.inside c.self.invariant) ∙ ap (λ (z : State). z.tick) c.self.view_is in
    let less : to_z w64 (of_z w64 (to_z w64 (of_z w64 c.in-Some.at) -ℤ to_z w64 (of_z w64 c.args.next.most))) ≡ c.in-Some.at -ℤ c.args.next.most = rw (to_z-of_z w64 c.in-Some.at fa, most) (to_z-of_z w64 (c.in-Some.at -ℤ c.args.next.most) h) in
    let test = int_le-false (to_z w64 (of_z w64 (to_z w64 (of_z w64 c.in-Some.at) -ℤ to_z w64 (of_z w64 c.args.next.most)))) (to_z w64 (of_z w64 c.self.inside.tick)) c.if-self-at.false in
    let late : s.tick <ℤ (c.in-Some.at -ℤ c.args.next.most) = omega (arith, ints, test, less, tick) in
    let same : to_z w64 (of_z w64 (to_z w64 (of_z w64 c.args.next.most) +ℤ to_z w64 (of_z w64 m.offset))) ≡ c.args.next.most +ℤ m.offset = rw (most, to_z-of_z w64 m.offset f) (to_z-of_z w64 (c.args.next.most +ℤ m.offset) e) in
    let b = late_bars s law c.args.p.0 c.requires.open c.args.group c.requires.place c.args.next c.requires.next down c.in-Some.at is_set late m known in
    subst (λ z. Bars (moment s) c.args.p.0 (record { from = c.args.p; to = m.point; most = z })) (sym same) b
