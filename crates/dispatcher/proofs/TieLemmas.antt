-- Points are tied where they stand in one group at one offset.
use Rattle.std.proofs.Common.{◌≡◌, ◌≢◌, ℕ, ◌<◌, true, List, [], ap, get_or, None, ◌↔◌}
use Rattle.std.proofs.lemmas.List.Elements.{Contains-get_or}
use Rattle.hs_base.specs.declared.net.Group.{Group}
use Rattle.hs_base.specs.Network.{spread}
use Rattle.hs_base.specs.Fits.{IsOneTime}
use Rattle.net_laws.proofs.StepLemmas.{ties}
use Rattle.dispatcher.specs.declared.places.Place.{Place}
use Rattle.hs_base.specs.Moments.{IsTied}
use Rattle.dispatcher.specs.State.{State, IsLawful, points, time_in, is_observed, moment}
use Rattle.dispatcher.specs.Places.{ArePlaces, member, place_at}
use Rattle.dispatcher.proofs.KeptLemmas.{number_is}

no_group : Group
no_group = record { leader = record { 0 = 0 }; members = [] }

module _ (s : State) (law : IsLawful s) (places : List Place) (are : ArePlaces (points s) s.net places) (x y : ℕ) (ix : x < points s) (iy : y < points s) where
  both : IsOneTime (spread s.net) x y ↔ (((get_or s.net.groups (place_at places x).group no_group).leader.0 ≡ (get_or s.net.groups (place_at places y).group no_group).leader.0) × ((place_at places x).offset ≡ (place_at places y).offset))
  both =
      let p : Place = place_at places x in
      let q : Place = place_at places y in
      ties (points s) s.net law.reduced (get_or s.net.groups p.group no_group) (get_or s.net.groups q.group no_group) (member x p.offset) (member y q.offset)
      (Contains-get_or s.net.groups p.group no_group (are.each x ix).within) (Contains-get_or s.net.groups q.group no_group (are.each y iy).within) ((are.each x ix).stands no_group) ((are.each y iy).stands no_group)

  pub tied_from : is_observed s y ≡ true → time_in s y ≡ None → y ≢ x → (place_at places x).group ≡ (place_at places y).group → (place_at places x).offset ≡ (place_at places y).offset → IsTied (moment s) x y
  tied_from watched none other group offset = record {
    below = iy;
    watched = watched;
    waiting = none;
    other = other;
    together = both.1 (ap (λ z. (get_or s.net.groups z no_group).leader.0) group, offset);
  }

  pub tied_to : IsTied (moment s) x y → ((place_at places x).group ≡ (place_at places y).group) × ((place_at places x).offset ≡ (place_at places y).offset)
  tied_to tied =
      let r = both.0 tied.together in
      (number_is (points s) s.net law.reduced (place_at places x).group (place_at places y).group no_group no_group (are.each x ix).within (are.each y iy).within r.0, r.1)
