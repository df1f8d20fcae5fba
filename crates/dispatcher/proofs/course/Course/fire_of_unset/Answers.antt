use Rattle.std.proofs.Common.{◌≡◌, ◌∙◌, ℕ, ap, sym, subst, arith, pos, w64, FitsSigned, to_z, of_z, get_or, inl, inr}
use Rattle.std.specs.Prelude.{◌-ℤ◌, Contains}
use Rattle.std.proofs.lemmas.Bool.{cases_eq}
use Rattle.std.proofs.lemmas.Int.{ints, to_z-of_z}
use Rattle.std.proofs.lemmas.List.{get_or_default}
use Rattle.std.proofs.lemmas.List.Elements.{Contains-get_or}
use Rattle.hs_base.specs.declared.net.Group.{Group}
use Rattle.net_laws.proofs.ListLemmas.{has_from, contains_from}
use Rattle.local_propagate.specs.declared.neighbours.Neighbour.{Neighbour}
use Rattle.local_propagate.specs.Joined.{after_of, leaders_of, leader_at}
use Rattle.dispatcher.specs.declared.places.Place.{Place}
use Rattle.hs_base.specs.Moments.{Bars}
use Rattle.dispatcher.specs.State.{State, IsLawful, moment}
use Rattle.dispatcher.specs.Places.{StandsAt}
use Rattle.dispatcher.specs.Edges.{LetsFire}
use Rattle.dispatcher.proofs.FiringLemmas.{place_within, same_bits, leader_bars, leads_to, all_let}
use Rattle.dispatcher.proofs.course.Course.fire_of_unset.Goals as goal

pub overflow_sub-result : goal.overflow_sub-result
overflow_sub-result c =
    let s = c.args.self.now in
    let law : IsLawful s = subst IsLawful c.self.view_is c.self.invariant.state in
    let o = place_within s law c.args.p.0 c.args.place c.requires.place in
    let g : FitsSigned w64 c.args.place.offset = omega (arith, ints, o.low, o.high) in
    rw (to_z-of_z w64 c.args.place.offset g) (omega (arith, ints, o.low, o.high))

pub returns-then-place-ne0 : goal.returns-then-place-ne0
returns-then-place-ne0 c =
    let s = c.args.self.now in
    let law : IsLawful s = subst IsLawful c.self.view_is c.self.invariant.state in
    let o = place_within s law c.args.p.0 c.args.place c.requires.place in
    let g : FitsSigned w64 c.args.place.offset = omega (arith, ints, o.low, o.high) in
    let h : FitsSigned w64 (pos 0 -ℤ c.args.place.offset) = omega (arith, ints, o.low, o.high) in
    let same : to_z w64 (of_z w64 (pos 0 -ℤ to_z w64 (of_z w64 c.args.place.offset))) ≡ pos 0 -ℤ c.args.place.offset = rw (to_z-of_z w64 c.args.place.offset g) (to_z-of_z w64 (pos 0 -ℤ c.args.place.offset) h) in
    let read : c.index.result.now ≡ get_or s.net.groups c.args.place.group c.index.result.now = c.index.ensures ∙ ap (λ (z : State). get_or z.net.groups c.args.place.group c.index.result.now) c.self.view_is in
    let b = leader_bars s law c.args.p.0 c.requires.open c.args.place c.requires.place c.requires.unset c.index.result.now (λ e. c.if-place-ne0.true (ap (of_z w64) e)) in
    subst (λ z. Bars (moment s) c.args.p.0 (record { from = c.args.p; to = c.index.result.now.leader; most = z })) (sym same)
    (subst (λ (z : Group). Bars (moment s) c.args.p.0 (record { from = c.args.p; to = z.leader; most = pos 0 -ℤ c.args.place.offset })) (sym read) b)

-- the point stands at its leader
at_leader : (s : State) → IsLawful s → (x : ℕ) (p : Place) → StandsAt s.net x p → of_z w64 p.offset ≡ 0 → StandsAt s.net x (record { group = p.group; offset = pos 0 })
at_leader s law x p stand h =
    let o = place_within s law x p stand in
    let f : FitsSigned w64 p.offset = omega (arith, ints, o.low, o.high) in
    let g : FitsSigned w64 (pos 0) = omega (arith, ints) in
    subst (λ z. StandsAt s.net x (record { group = p.group; offset = z })) (same_bits p.offset (pos 0) f g h) stand

pub bar_of-requires-clause-place : goal.bar_of-requires-clause-place
bar_of-requires-clause-place c =
    let s = c.args.self.now in
    at_leader s (subst IsLawful c.self.view_is c.self.invariant.state) c.args.p.0 c.args.place c.requires.place c.if-place-ne0.false

pub bar_of-requires-clause-next : goal.bar_of-requires-clause-next
bar_of-requires-clause-next c =
    let s = c.args.self.now in
    let d : Neighbour = record { group = 0; most = pos 0 } in
    let nexts : c.after-nexts.result.now ≡ after_of (leaders_of s.net.groups) s.net.edges (leader_at s.net c.args.place.group) = c.after-nexts.ensures ∙ ap (λ (z : State). after_of (leaders_of z.net.groups) z.net.edges (leader_at z.net c.args.place.group)) c.self.view_is in
    leads_to s (subst IsLawful c.self.view_is c.self.invariant.state) c.args.place.group c.requires.place.within (get_or c.after-nexts.result.now c.loop-next.next-index d)
    (has_from _ _ (subst (λ z. Contains z (get_or c.after-nexts.result.now c.loop-next.next-index d)) nexts (Contains-get_or c.after-nexts.result.now c.loop-next.next-index d c.loop-next-test.true)))

pub loop-next-preserved : goal.loop-next-preserved
loop-next-preserved c = λ k d kk. elim (cases_eq k c.loop-next.next-index) [
  | inr other ↦ c.loop-next.invariant k d (omega (arith, kk, other))
  | inl same ↦
      let e : Neighbour = record { group = 0; most = pos 0 } in
      let at : get_or c.after-nexts.result.now c.loop-next.next-index e ≡ get_or c.after-nexts.result.now k d = get_or_default c.after-nexts.result.now c.loop-next.next-index e d c.loop-next-test.true ∙ ap (λ z. get_or c.after-nexts.result.now z d) (sym same) in
      subst (LetsFire c.args.self.now) at c.in_default.ensures
]

pub returns : goal.returns
returns c =
    let s = c.args.self.now in
    let law : IsLawful s = subst IsLawful c.self.view_is c.self.invariant.state in
    let nexts : c.after-nexts.result.now ≡ after_of (leaders_of s.net.groups) s.net.edges (leader_at s.net c.args.place.group) = c.after-nexts.ensures ∙ ap (λ (z : State). after_of (leaders_of z.net.groups) z.net.edges (leader_at z.net c.args.place.group)) c.self.view_is in
    all_let s law c.args.p.0 c.args.place.group (at_leader s law c.args.p.0 c.args.place c.requires.place c.if-place-ne0.false) c.requires.unset
    (λ n j.
    let k : Contains c.after-nexts.result.now n = subst (λ z. Contains z n) (sym nexts) (contains_from _ n j) in
    subst (LetsFire s) k.2 (c.loop-next.invariant k.0 n (omega (arith, k.1, c.loop-next-test.false))))
