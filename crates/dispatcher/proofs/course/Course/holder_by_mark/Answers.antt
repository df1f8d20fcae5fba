use Rattle.std.proofs.Common.{◌≡◌, ◌∙◌, ◌<◌, ℕ, ap, sym, subst, arith, length, pos, get_or, w64, FitsSigned, of_z, None}
use Rattle.std.proofs.lemmas.Int.{ints}
use Rattle.hs_base.specs.declared.net.Group.{Group}
use Rattle.hs_base.specs.Dispatch.{MarkedFrom, leader_times}
use Rattle.dispatcher.specs.declared.places.Place.{Place}
use Rattle.dispatcher.specs.State.{State, IsLawful, points, time_in}
use Rattle.dispatcher.specs.Places.{ArePlaces, place_at}
use Rattle.dispatcher.specs.Edges.{IsKnownIn, IsSetAt}
use Rattle.dispatcher.proofs.InsideLemmas.{leader_below, place_read}
use Rattle.dispatcher.proofs.FiringLemmas.{place_within, same_bits}
use Rattle.dispatcher.proofs.HoldingLemmas.{off_free, unmarked_free, origin_is, mark_held}
use Rattle.dispatcher.proofs.course.Course.holder_by_mark.Goals as goal

pub returns-then-place-ne0 : goal.returns-then-place-ne0
returns-then-place-ne0 c =
    let law : IsLawful c.args.self.now = subst IsLawful c.self.view_is c.self.invariant.state in
    off_free c.args.self.now law c.args.x c.args.place c.requires.place c.requires.unset (λ e. c.if-place-ne0.true (ap (of_z w64) e))

pub bounds : goal.bounds
bounds c =
    let ii : c.args.place.group < length c.self.inside.net.groups = subst (λ (s : State). c.args.place.group < length s.net.groups) (sym c.self.view_is) c.requires.place.within in
    omega (arith, leader_below c.self.inside c.self.invariant c.args.place.group ii c.index.result.now c.index.ensures, c.requires.marks.points, ap points c.self.view_is)

pub index-requires-in-Some : goal.index-requires-in-Some
index-requires-in-Some c =
    let d = c.self.inside in
    let s = c.args.self.now in
    let law : IsLawful s = subst IsLawful c.self.view_is c.self.invariant.state in
    let are : ArePlaces (points s) s.net d.places.items = subst (λ (z : State). ArePlaces (points z) z.net d.places.items) c.self.view_is c.self.invariant.places in
    let o = origin_is s law d.places.items are c.in-Some.origin.0 c.index.result.now.leader.0 (c.requires.marks.sound.each c.index.result.now.leader.0 c.in-Some.origin c.in-Some.is) in
    omega (arith, o.below, are.points, d.places.ok.0)

pub known_in-requires-clause-group : goal.known_in-requires-clause-group
known_in-requires-clause-group c =
    let d = c.self.inside in
    let s = c.args.self.now in
    let q : ℕ = c.in-Some.origin.0 in
    let law : IsLawful s = subst IsLawful c.self.view_is c.self.invariant.state in
    let are : ArePlaces (points s) s.net d.places.items = subst (λ (z : State). ArePlaces (points z) z.net d.places.items) c.self.view_is c.self.invariant.places in
    let o = origin_is s law d.places.items are q c.index.result.now.leader.0 (c.requires.marks.sound.each c.index.result.now.leader.0 c.in-Some.origin c.in-Some.is) in
    let iq : q < length d.times.items = subst (λ (z : State). q < points z) (sym c.self.view_is) o.below in
    let place = place_read d c.self.invariant q c.index-in-Some.result.now iq c.index-in-Some.ensures in
    omega (arith, o.within, ap (λ (z : Place). z.group) place)

pub known_in-requires-clause-set : goal.known_in-requires-clause-set
known_in-requires-clause-set c =
    let d = c.self.inside in
    let s = c.args.self.now in
    let q : ℕ = c.in-Some.origin.0 in
    let law : IsLawful s = subst IsLawful c.self.view_is c.self.invariant.state in
    let are : ArePlaces (points s) s.net d.places.items = subst (λ (z : State). ArePlaces (points z) z.net d.places.items) c.self.view_is c.self.invariant.places in
    let o = origin_is s law d.places.items are q c.index.result.now.leader.0 (c.requires.marks.sound.each c.index.result.now.leader.0 c.in-Some.origin c.in-Some.is) in
    let iq : q < length d.times.items = subst (λ (z : State). q < points z) (sym c.self.view_is) o.below in
    let place = place_read d c.self.invariant q c.index-in-Some.result.now iq c.index-in-Some.ensures in
    (o.at, subst (λ z. IsSetAt s z o.at) (ap (λ (z : Place). z.group) (sym place)) o.is_set)

pub returns-in-None : goal.returns-in-None
returns-in-None c =
    let s = c.args.self.now in
    let law : IsLawful s = subst IsLawful c.self.view_is c.self.invariant.state in
    let g = c.index.result.now in
    let read : g ≡ get_or s.net.groups c.args.place.group g = c.index.ensures ∙ ap (λ (z : State). get_or z.net.groups c.args.place.group g) c.self.view_is in
    unmarked_free s law c.args.x c.args.place c.requires.place c.requires.unset c.args.marks.now g c.requires.marks (ap (λ (z : Group). get_or c.args.marks.now z.leader.0 None) (sym read) ∙ c.in-None.is)

pub returns-in-Some : goal.returns-in-Some
returns-in-Some c =
    let d = c.self.inside in
    let s = c.args.self.now in
    let q : ℕ = c.in-Some.origin.0 in
    let g = c.index.result.now in
    let law : IsLawful s = subst IsLawful c.self.view_is c.self.invariant.state in
    let are : ArePlaces (points s) s.net d.places.items = subst (λ (z : State). ArePlaces (points z) z.net d.places.items) c.self.view_is c.self.invariant.places in
    let read : g ≡ get_or s.net.groups c.args.place.group g = c.index.ensures ∙ ap (λ (z : State). get_or z.net.groups c.args.place.group g) c.self.view_is in
    let mark : MarkedFrom s.net.edges (leader_times s.net.groups (time_in s)) s.tick q (get_or s.net.groups c.args.place.group g).leader.0 =
    subst (λ (z : Group). MarkedFrom s.net.edges (leader_times s.net.groups (time_in s)) s.tick q z.leader.0) read (c.requires.marks.sound.each g.leader.0 c.in-Some.origin c.in-Some.is) in
    let o = origin_is s law d.places.items are q (get_or s.net.groups c.args.place.group g).leader.0 mark in
    let iq : q < length d.times.items = subst (λ (z : State). q < points z) (sym c.self.view_is) o.below in
    let place = place_read d c.self.invariant q c.index-in-Some.result.now iq c.index-in-Some.ensures in
    let number : c.index-in-Some.result.now.group ≡ (place_at d.places.items q).group = ap (λ (z : Place). z.group) place in
    let known : IsKnownIn s (place_at d.places.items q).group o.at c.known_in.result = subst (λ z. IsKnownIn s z o.at c.known_in.result) number (c.known_in.ensures o.at (subst (λ z. IsSetAt s z o.at) (sym number) o.is_set)) in
    let within = place_within s law c.args.x c.args.place c.requires.place in
    let f : FitsSigned w64 c.args.place.offset = omega (arith, ints, within.low, within.high) in
    let zero : FitsSigned w64 (pos 0) = omega (arith, ints) in
    let flat : c.args.place.offset ≡ pos 0 = same_bits c.args.place.offset (pos 0) f zero c.if-place-ne0.false in
    mark_held s law d.places.items are c.args.x c.args.place c.requires.place c.requires.unset flat g q mark c.known_in.result known
