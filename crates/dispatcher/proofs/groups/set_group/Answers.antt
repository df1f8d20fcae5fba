use Rattle.std.proofs.Common.{◌≡◌, ◌∙◌, ◌<◌, ℕ, ap, sym, refl, subst, arith, w64, FitsSigned, get_or, set, length, All, List, Some, None}
use Rattle.std.specs.Prelude.{Contains}
use Rattle.std.proofs.lemmas.Int.{ints, to_z-of_z}
use Rattle.std.proofs.lemmas.List.{get_or_default, get_or-set_same, get_or-set_other}
use Rattle.std.proofs.lemmas.List.Elements.{Contains-get_or, All-head}
use Rattle.hs_base.specs.declared.net.Group.{Group}
use Rattle.hs_base.specs.declared.net.Net.{Net}
use Rattle.hs_base.specs.Dispatch.{stands, group_time}
use Rattle.hs_base.specs.Network.{spread}
use Rattle.hs_base.specs.Reduced.{IsReducedOf}
use Rattle.dispatcher.specs.declared.places.Place.{Place}
use Rattle.net_laws.proofs.NetworkLemmas.{group_time_within}
use Rattle.local_propagate.specs.Windows.{time_of, times_of}
use Rattle.dispatcher.specs.State.{times_in}
use Rattle.dispatcher.specs.Places.{ArePlaces, IsNearLeader, place_at}
use Rattle.dispatcher.proofs.KeptLemmas.{leader_place}
use Rattle.dispatcher.proofs.PlaceLemmas.{near_group}
use Rattle.dispatcher.proofs.ToldLemmas.{times_within}
use Rattle.dispatcher.proofs.groups.set_group.Goals as goal

-- a group that is read is one of the network
read_in : (net : Net) (i : ℕ) (g : Group) → i < length net.groups → g ≡ get_or net.groups i g → Contains net.groups g
read_in net i g ii read = subst (λ z. Contains net.groups z) (sym read) (Contains-get_or net.groups i g ii)

pub told_by_group-requires-clause-near : goal.told_by_group-requires-clause-near
told_by_group-requires-clause-near c =
    let g = c.index-group.result.now in
    subst (λ (z : Group). All (IsNearLeader (length c.args.times.now)) (stands z)) (sym c.index-group.ensures) (near_group (length c.args.times.now) c.args.net.now c.requires.reduced c.args.i (length c.args.times.now) g c.requires.group refl)

pub told_by_group-requires-clause-times : goal.told_by_group-requires-clause-times
told_by_group-requires-clause-times c = times_within (length c.args.times.now) c.args.net.now c.requires.reduced (times_in c.args.times.now) c.requires.reached.0 c.requires.reached.1

-- the number of a group that is read
read_number : (c : ℕ) (net : Net) (is : IsReducedOf c (spread net) net) (places : List Place) (are : ArePlaces c net places) (i : ℕ) (g : Group) → i < length net.groups → g ≡ get_or net.groups i g → (place_at places g.leader.0).group ≡ i
read_number c net is places are i g ii read = subst (λ (z : Group). (place_at places z.leader.0).group ≡ i) (sym read) (leader_place c net is places are i g ii)

pub bounds-places-group : goal.bounds-places-group
bounds-places-group c =
    let g = c.index-group.result.now in
    let near = subst (λ (z : Group). All (IsNearLeader (length c.args.times.now)) (stands z)) (sym c.index-group.ensures) (near_group (length c.args.times.now) c.args.net.now c.requires.reduced c.args.i (length c.args.times.now) g c.requires.group refl) in
    omega (arith, (All-head (IsNearLeader (length c.args.times.now)) _ _ near).below, c.requires.places.points)

pub set-requires-clause-unset : goal.set-requires-clause-unset
set-requires-clause-unset c =
    let g = c.index-group.result.now in
    ap (time_of c.args.windows.now) (read_number (length c.args.times.now) c.args.net.now c.requires.reduced c.args.places.now c.requires.places c.args.i g c.requires.group c.index-group.ensures) ∙ c.requires.unset

pub set-requires-clause-from : goal.set-requires-clause-from
set-requires-clause-from c =
    let g = c.index-group.result.now in
    let w = group_time_within (length c.args.times.now) c.args.net.now c.requires.reduced (times_in c.args.times.now) c.requires.reached.0 c.requires.reached.1 g c.in-Some.told.at (read_in c.args.net.now c.args.i g c.requires.group c.index-group.ensures) c.in-Some.ensures.time in
    let f : FitsSigned w64 c.in-Some.told.at = omega (arith, ints, w.low, w.high) in
    rw (to_z-of_z w64 c.in-Some.told.at f) w.low

pub set-requires-clause-to : goal.set-requires-clause-to
set-requires-clause-to c =
    let g = c.index-group.result.now in
    let w = group_time_within (length c.args.times.now) c.args.net.now c.requires.reduced (times_in c.args.times.now) c.requires.reached.0 c.requires.reached.1 g c.in-Some.told.at (read_in c.args.net.now c.args.i g c.requires.group c.index-group.ensures) c.in-Some.ensures.time in
    let f : FitsSigned w64 c.in-Some.told.at = omega (arith, ints, w.low, w.high) in
    rw (to_z-of_z w64 c.in-Some.told.at f) w.high

pub returns-in-Some-clause-own : goal.returns-in-Some-clause-own
returns-in-Some-clause-own c =
    let g = c.index-group.result.now in
    let t = c.in-Some.told.at in
    let w = group_time_within (length c.args.times.now) c.args.net.now c.requires.reduced (times_in c.args.times.now) c.requires.reached.0 c.requires.reached.1 g t (read_in c.args.net.now c.args.i g c.requires.group c.index-group.ensures) c.in-Some.ensures.time in
    let f : FitsSigned w64 t = omega (arith, ints, w.low, w.high) in
    let number = read_number (length c.args.times.now) c.args.net.now c.requires.reduced c.args.places.now c.requires.places c.args.i g c.requires.group c.index-group.ensures in
    let times : times_of c.set.new.self ≡ set (times_of c.args.windows.now) c.args.i (Some t) = c.set.ensures.times ∙ rw (number, to_z-of_z w64 t f) refl in
    λ d. ap (λ z. get_or z c.args.i None) times ∙ get_or-set_same (times_of c.args.windows.now) c.args.i (Some t) None (omega (arith, c.requires.group, c.requires.windows.groups)) ∙ sym c.in-Some.ensures.time
    ∙ ap (group_time (times_in c.args.times.now)) (c.index-group.ensures ∙ get_or_default c.args.net.now.groups c.args.i g d c.requires.group)

pub returns-in-Some-clause-others : goal.returns-in-Some-clause-others
returns-in-Some-clause-others c =
    let g = c.index-group.result.now in
    let number = read_number (length c.args.times.now) c.args.net.now c.requires.reduced c.args.places.now c.requires.places c.args.i g c.requires.group c.index-group.ensures in
    λ j other. ap (λ z. get_or z j None) c.set.ensures.times ∙ get_or-set_other (times_of c.args.windows.now) _ j _ None (λ e. other (e ∙ number))
