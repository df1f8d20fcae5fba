-- What is read of a Dispatch's fields.
use Rattle.std.proofs.Common.{◌≡◌, ◌∙◌, ℕ, ◌<◌, [], length, refl, sym, ap, subst, arith, pos, inl, get_or, w64, FitsSigned, Some}
use Rattle.std.proofs.lemmas.Int.{ints}
use Rattle.std.proofs.lemmas.List.{get_or_read, get_or_default, get_or-map, length-map}
use Rattle.std.proofs.lemmas.List.Elements.{Contains-get_or}
use Rattle.std.specs.Prelude.{ℤ, ◌+ℤ◌, Contains}
use Rattle.hs_base.specs.declared.ids.PointId.{PointId}
use Rattle.hs_base.specs.declared.net.Member.{Member}
use Rattle.hs_base.specs.declared.net.Group.{Group}
use Rattle.hs_base.specs.Dispatch.{stands, group_time}
use Rattle.net_laws.proofs.ListLemmas.{contains_from}
use Rattle.net_laws.proofs.NetworkLemmas.{offset_within}
use Rattle.local_propagate.specs.Windows.{time_of}
use Rattle.dispatcher.specs.declared.course.Course.TheInside.{Inside}
use Rattle.dispatcher.specs.declared.places.Place.{Place}
use Rattle.dispatcher.specs.State.{time_in}
use Rattle.dispatcher.specs.Places.{StandsAt, member, no_place, place_at}
use Rattle.dispatcher.specs.Index.{numbers_of}
use Rattle.dispatcher.specs.Edges.{IsSetAt, IsKnownIn}
use Rattle.dispatcher.specs.Kept.{state_of, IsKept}
use Rattle.dispatcher.proofs.KeptLemmas.{leader_place, place_is, time_of_group}

module _ (d : Inside) (k : IsKept d) where
  -- the tick is within LAST
  pub tick_fits : FitsSigned w64 d.tick
  tick_fits = let zero = k.state.reached.late 0 (pos 0) k.state.reached.origin in omega (arith, ints, zero, k.state.last)

  pub place_read : (x : ℕ) (p : Place) → x < length d.times.items → p ≡ get_or d.places.items x p → p ≡ place_at d.places.items x
  place_read x p ix read = get_or_read d.places.items x p (omega (arith, ix, k.places.points)) read no_place

  -- where a point stands
  pub stands_read : (x : ℕ) (p : Place) → x < length d.times.items → p ≡ get_or d.places.items x p → StandsAt d.net x p
  stands_read x p ix read = subst (StandsAt d.net x) (sym (place_read x p ix read)) (k.places.each x ix)

  module _ (i : ℕ) (ii : i < length d.net.groups) where
    group_in : (g : Group) → g ≡ get_or d.net.groups i g → Contains d.net.groups g
    group_in g read = subst (λ z. Contains d.net.groups z) (sym read) (Contains-get_or d.net.groups i g ii)

    -- the leader of a group that is read is a point
    pub leader_below : (g : Group) → g ≡ get_or d.net.groups i g → g.leader.0 < length d.times.items
    leader_below g read =
        let self : Member = record { point = g.leader; offset = pos 0 } in
        (offset_within (length d.times.items) d.net k.state.reduced g self (group_in g read) (contains_from (stands g) self (inl refl))).below

    -- its place has the group's number
    pub number_read : (g : Group) (p : Place) → g ≡ get_or d.net.groups i g → p ≡ get_or d.places.items g.leader.0 p → p.group ≡ i
    number_read g p read place =
        ap (λ (z : Place). z.group) (place_read g.leader.0 p (leader_below g read) place) ∙ subst (λ (z : Group). (place_at d.places.items z.leader.0).group ≡ i) (sym read) (leader_place (length d.times.items) d.net k.state.reduced d.places.items k.places i g ii)

    -- the windows' time is the group's
    pub time_read : (g : Group) → time_of d.windows i ≡ group_time (time_in (state_of d)) (get_or d.net.groups i g)
    time_read g = time_of_group d.net d.times.items (time_in (state_of d)) d.windows k.set.are k.set.by i g ii

    -- a known point, with its offset
    pub known_read : (q : PointId) (p : Place) (t : ℤ) → q ≡ get_or d.known.items i q → p ≡ get_or d.places.items q.0 p → IsSetAt (state_of d) i t → IsKnownIn (state_of d) i t (record { point = q; offset = p.offset })
    known_read q p t read place is_set =
        let number : get_or (numbers_of d.known.items) i 0 ≡ q.0 = get_or-map (λ (z : PointId). z.0) d.known.items i q 0 (omega (arith, ii, k.known.groups, length-map d.known.items (λ (z : PointId). z.0))) ∙ ap (λ (z : PointId). z.0) (sym read) in
        let none : Group = record { leader = record { 0 = 0 }; members = [] } in
        let told = k.known.each i none t ii (is_set none) in
        let ig : Contains d.net.groups (get_or d.net.groups i none) = Contains-get_or d.net.groups i none ii in
        let its : Contains (stands (get_or d.net.groups i none)) (member q.0 told.0) = subst (λ z. Contains (stands (get_or d.net.groups i none)) (member z told.0)) number told.1 in
        let there = place_is (length d.times.items) d.net k.state.reduced d.places.items k.places (get_or d.net.groups i none) (member q.0 told.0) ig its in
        let offset : p.offset ≡ told.0 = ap (λ (z : Place). z.offset) (place_read q.0 p there.below place) ∙ there.offset in
        record {
          stands = λ g. subst (λ o. Contains (stands (get_or d.net.groups i g)) (member q.0 o)) (sym offset) (subst (λ z. Contains (stands z) (member q.0 told.0)) (get_or_default d.net.groups i none g ii) its);
          executed = subst (λ o. time_in (state_of d) q.0 ≡ Some (t +ℤ o)) (sym offset) (ap (time_in (state_of d)) (sym number) ∙ told.2);
        }

    pub known_below : (q : PointId) (t : ℤ) → q ≡ get_or d.known.items i q → IsSetAt (state_of d) i t → q.0 < length d.times.items
    known_below q t read is_set =
        let number : get_or (numbers_of d.known.items) i 0 ≡ q.0 = get_or-map (λ (z : PointId). z.0) d.known.items i q 0 (omega (arith, ii, k.known.groups, length-map d.known.items (λ (z : PointId). z.0))) ∙ ap (λ (z : PointId). z.0) (sym read) in
        let none : Group = record { leader = record { 0 = 0 }; members = [] } in
        let told = k.known.each i none t ii (is_set none) in
        let o = offset_within (length d.times.items) d.net k.state.reduced (get_or d.net.groups i none) (member (get_or (numbers_of d.known.items) i 0) told.0) (Contains-get_or d.net.groups i none ii) told.1 in
        omega (arith, o.below, number)
