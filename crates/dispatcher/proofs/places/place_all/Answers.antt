use Rattle.std.proofs.Common.{◌≡◌, ◌∙◌, ◌<◌, ap, refl, subst, arith, length, get_or, All, ℕ, List, inl, inr}
use Rattle.std.specs.Prelude.{Contains, pos}
use Rattle.std.specs.List.{fold}
use Rattle.std.proofs.lemmas.List.{length-map, length-set, get_or-map, get_or_default}
use Rattle.std.proofs.lemmas.List.Elements.{All-head, All-tail, All-cons, All-contains}
use Rattle.std.proofs.lemmas.Bool.{cases_eq}
use Rattle.hs_base.specs.declared.net.Group.{Group}
use Rattle.hs_base.specs.Dispatch.{stands}
use Rattle.net_laws.proofs.NetworkLemmas.{number_at_most}
use Rattle.dispatcher.specs.declared.places.Place.{Place}
use Rattle.dispatcher.specs.Places.{IsNearLeader, IsSmall, placed}
use Rattle.dispatcher.proofs.PlaceLemmas.{near_group, group_placed, all_placed, all_small}
use Rattle.dispatcher.proofs.places.place_all.Goals as goal

pub overflow_cast-number : goal.overflow_cast-number
overflow_cast-number c =
    let net = c.args.net.now in
    let i = c.loop-i.i in
    let ii : i < length net.groups = omega (arith, ap length c.as_slice-groups.ensures, c.loop-i-test.true) in
    let most = number_at_most (length c.args.places.now) net c.requires i (omega (arith, ii, length-map net.groups (λ (g : Group). g.leader.0))) in
    let is = get_or-map (λ (g : Group). g.leader.0) net.groups i c.index-groups-i.result 0 ii in
    let same = ap (λ gs. (get_or gs i c.index-groups-i.result).leader.0) c.as_slice-groups.ensures in
    omega (arith, most, is, same, c.index-groups-i.element_fits)

-- the leader and the members that are read
leader_read : (gs read : List Group) (i : ℕ) (d : Group) → read ≡ gs → (get_or read i d).leader.0 ≡ (get_or gs i d).leader.0
leader_read gs read i d same = ap (λ (z : List Group). (get_or z i d).leader.0) same

members_read : (gs read : List Group) (i : ℕ) (d e : Group) → read ≡ gs → i < length gs → (get_or read i e).members ≡ (get_or gs i d).members
members_read gs read i d e same ii = ap (λ (z : List Group). (get_or z i e).members) same ∙ ap (λ (g : Group). g.members) (get_or_default gs i e d ii)

pub bounds-places-leader : goal.bounds-places-leader
bounds-places-leader c =
    let net = c.args.net.now in
    let i = c.loop-i.i in
    let d = c.index-groups-i.result in
    let ii : i < length net.groups = omega (arith, ap length c.as_slice-groups.ensures, c.loop-i-test.true) in
    let near = near_group (length c.args.places.now) net c.requires i (length c.loop-i.places) d ii c.loop-i.auto.places in
    omega (arith, leader_read net.groups c.as_slice-groups.result.now i d c.as_slice-groups.ensures, (All-head (IsNearLeader (length c.loop-i.places)) _ _ near).below)

pub place_members-requires : goal.place_members-requires
place_members-requires c =
    let net = c.args.net.now in
    let i = c.loop-i.i in
    let d = c.index-groups-i.result in
    let ii : i < length net.groups = omega (arith, ap length c.as_slice-groups.ensures, c.loop-i-test.true) in
    let near = near_group (length c.args.places.now) net c.requires i (length c.loop-i.places) d ii c.loop-i.auto.places in
    let p : Place = record { group = i; offset = pos 0 } in
    let is : c.as_slice.result.now ≡ (get_or net.groups i d).members = c.as_slice.ensures ∙ members_read net.groups c.as_slice-groups.result.now i d c.index-groups-i-in-loop-i.result c.as_slice-groups.ensures ii in
    rw (length-set c.loop-i.places (get_or c.as_slice-groups.result.now i d).leader.0 p, is) (All-tail (IsNearLeader (length c.loop-i.places)) _ _ near)

pub loop-i-preserved : goal.loop-i-preserved
loop-i-preserved c =
    let net = c.args.net.now in
    let i = c.loop-i.i in
    let d = c.index-groups-i.result in
    let ii : i < length net.groups = omega (arith, ap length c.as_slice-groups.ensures, c.loop-i-test.true) in
    let leader = leader_read net.groups c.as_slice-groups.result.now i d c.as_slice-groups.ensures in
    let is : c.as_slice.result.now ≡ (get_or net.groups i d).members = c.as_slice.ensures ∙ members_read net.groups c.as_slice-groups.result.now i d c.index-groups-i-in-loop-i.result c.as_slice-groups.ensures ii in
    let new : c.place_members.new.places ≡ fold (placed i) c.loop-i.places (stands (get_or net.groups i d)) = c.place_members.ensures.places ∙ rw (is, leader) refl in
    let members : All IsSmall (get_or net.groups i d).members = subst (All IsSmall) is c.place_members.ensures.small in
    let small : All IsSmall (stands (get_or net.groups i d)) = All-cons IsSmall (record { point = (get_or net.groups i d).leader; offset = pos 0 }) (get_or net.groups i d).members (omega (arith, leader, c.index-groups-i.element_fits)) members in
    record {
      places = λ j g m ji jj im. rw new (group_placed (length c.args.places.now) net c.requires i d c.loop-i.places ii c.loop-i.auto.places c.loop-i.invariant.places j g m ji jj im);
      small = λ j g m ji jj im. elim (cases_eq j i) [
        | inr other ↦ c.loop-i.invariant.small j g m (omega (arith, ji, other)) jj im
        | inl same ↦ All-contains IsSmall (stands (get_or net.groups i d)) m small (subst (λ z. Contains (stands z) m) (ap (λ z. get_or net.groups z g) same ∙ get_or_default net.groups i g d ii) im)
      ];
    }

pub returns : goal.returns
returns c =
    let net = c.args.net.now in
    let done : (j : ℕ) → j < length net.groups → j < c.loop-i.i = λ j jj. omega (arith, jj, ap length c.as_slice-groups.ensures, c.loop-i-test.false) in
    record {
      places = all_placed (length c.args.places.now) net c.requires c.loop-i.places c.loop-i.auto.places (λ j g m jj im. c.loop-i.invariant.places j g m (done j jj) jj im);
      small = all_small (length c.args.places.now) net c.requires (λ j g m jj im. c.loop-i.invariant.small j g m (done j jj) jj im);
    }
