use Rattle.std.proofs.Common.{◌≡◌, ◌≢◌, ◌∙◌, ◌<◌, ap, sym, subst, arith, nat_eq, true, false, w64, FitsSigned, of_z, None, rules, tests}
use Rattle.std.specs.Prelude.{IsTrue}
use Rattle.std.proofs.lemmas.Int.{ints}
use Rattle.std.proofs.lemmas.Bool.{eq-eqb, eqb-true}
use Rattle.std.proofs.lemmas.List.{get_or_read}
use Rattle.dispatcher.specs.declared.places.Place.{Place}
use Rattle.hs_base.specs.Moments.{IsTied}
use Rattle.dispatcher.specs.State.{State, is_observed, time_in, points, moment}
use Rattle.dispatcher.specs.Places.{place_at}
use Rattle.dispatcher.specs.Kept.{state_of}
use Rattle.dispatcher.proofs.KeptLemmas.{none_from}
use Rattle.dispatcher.proofs.InsideLemmas.{place_read, stands_read}
use Rattle.dispatcher.proofs.FiringLemmas.{place_within, same_bits}
use Rattle.dispatcher.proofs.TieLemmas.{tied_from, tied_to}
use Rattle.dispatcher.proofs.course.Course.ties.Goals as goal

pub returns-then-here-there : goal.returns-then-here-there
returns-then-here-there c =
    let d = c.self.inside in
    let k = c.self.invariant in
    let s = state_of d in
    let x = c.args.x in
    let y = c.args.y in
    let ix : x < points s = subst (λ (z : State). x < points z) (sym c.self.view_is) c.requires.x in
    let iy : y < points s = subst (λ (z : State). y < points z) (sym c.self.view_is) c.requires.y in
    let p = c.index-here.result.now in
    let q = c.index-there.result.now in
    let is_p = place_read d k x p ix c.index-here.ensures in
    let is_q = place_read d k y q iy c.index-there.ensures in
    let op = place_within s k.state x p (stands_read d k x p ix c.index-here.ensures) in
    let oq = place_within s k.state y q (stands_read d k y q iy c.index-there.ensures) in
    let fp : FitsSigned w64 p.offset = omega (arith, ints, op.low, op.high) in
    let fq : FitsSigned w64 q.offset = omega (arith, ints, oq.low, oq.high) in
    let seen : c.index.result.now ≡ true = first_of (search rules, search (rules, tests), cc) in
    let watched : is_observed s y ≡ true = sym (get_or_read d.observed y c.index.result.now (omega (arith, iy, k.state.observed)) c.index.ensures false) ∙ seen in
    let none : time_in s y ≡ None = sym (get_or_read d.times.items y c.index-else-not-index.result.now iy c.index-else-not-index.ensures None) ∙ none_from c.index-else-not-index.result.now (sym c.if-is_some.ensures) in
    let other : y ≢ x = λ e. c.if-x-y.false (sym e) in
    let group : (place_at d.places.items x).group ≡ (place_at d.places.items y).group = ap (λ (z : Place). z.group) (sym is_p) ∙ c.if-here-there.true ∙ ap (λ (z : Place). z.group) is_q in
    subst (λ (z : State). (IsTrue (nat_eq (of_z w64 p.offset) (of_z w64 q.offset)) → IsTied (moment z) x y) × (IsTied (moment z) x y → IsTrue (nat_eq (of_z w64 p.offset) (of_z w64 q.offset)))) c.self.view_is (
      λ h.
          let same : p.offset ≡ q.offset = same_bits p.offset q.offset fp fq (eqb-true _ _ h) in
          tied_from s k.state d.places.items k.places x y ix iy watched none other group (ap (λ (z : Place). z.offset) (sym is_p) ∙ same ∙ ap (λ (z : Place). z.offset) is_q),
      λ tied.
          let r = tied_to s k.state d.places.items k.places x y ix iy tied in
          eq-eqb _ _ (ap (of_z w64) (ap (λ (z : Place). z.offset) is_p ∙ r.1 ∙ ap (λ (z : Place). z.offset) (sym is_q))),
    )

pub returns-else-here-there : goal.returns-else-here-there
returns-else-here-there c =
    let d = c.self.inside in
    let k = c.self.invariant in
    let s = state_of d in
    let x = c.args.x in
    let y = c.args.y in
    let ix : x < points s = subst (λ (z : State). x < points z) (sym c.self.view_is) c.requires.x in
    let iy : y < points s = subst (λ (z : State). y < points z) (sym c.self.view_is) c.requires.y in
    let p = c.index-here.result.now in
    let q = c.index-there.result.now in
    let is_p = place_read d k x p ix c.index-here.ensures in
    let is_q = place_read d k y q iy c.index-there.ensures in (
      λ h. absurd (c.if-here-there.false (eqb-true _ _ h)),
      λ tied.
          let r = tied_to s k.state d.places.items k.places x y ix iy (subst (λ (z : State). IsTied (moment z) x y) (sym c.self.view_is) tied) in
          absurd (c.if-here-there.false (ap (λ (z : Place). z.group) is_p ∙ r.0 ∙ ap (λ (z : Place). z.group) (sym is_q))),
    )
