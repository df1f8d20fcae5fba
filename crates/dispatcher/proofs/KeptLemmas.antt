-- What a lawful state and its index say of groups, places and windows.
use Rattle.std.proofs.Common.{◌≡◌, ℕ, ◌<◌, List, [], length, refl, sym, ap, ◌∙◌, subst, arith, pos, inl, inr, ◌⊎◌, get_or, map, All, Option, Some, None, true, false}
use Rattle.std.proofs.lemmas.Int.{ints}
use Rattle.std.proofs.lemmas.List.{length-map, get_or-map}
use Rattle.std.proofs.lemmas.List.Elements.{Contains-get_or}
use Rattle.std.specs.Prelude.{ℤ, ◌+ℤ◌, ◌≤ℤ◌, ◌<ℤ◌, Contains}
use Rattle.std.specs.Option.{is_some}
use Rattle.hs_base.specs.declared.limits.TheConstants.{LAST}
use Rattle.hs_base.specs.declared.net.Member.{Member}
use Rattle.hs_base.specs.declared.net.Group.{Group}
use Rattle.hs_base.specs.declared.net.Net.{Net}
use Rattle.hs_base.specs.Network.{spread}
use Rattle.hs_base.specs.Reduced.{IsReducedOf}
use Rattle.hs_base.specs.Fits.{Times}
use Rattle.hs_base.specs.Dispatch.{stands, group_time, lookup_time, leader_times}
use Rattle.hs_base.specs.Windows.{IsHigh, AreHigh}
use Rattle.net_laws.proofs.LeaderLemmas.{cases_Option}
use Rattle.net_laws.proofs.ListLemmas.{contains_from}
use Rattle.net_laws.proofs.NetworkLemmas.{leaders_differ, offset_within, edge_within, stands_once}
use Rattle.net_laws.proofs.StepLemmas.{ticked as after_tick}
use Rattle.net_laws.proofs.WindowLemmas.{windows_free}
use Rattle.local_propagate.specs.declared.windows.Windows.{Windows}
use Rattle.local_propagate.specs.declared.windows.TheConstants.{NEVER}
use Rattle.local_propagate.specs.Joined.{IsJoined, leaders_of, leader_at, place_of}
use Rattle.local_propagate.specs.Windows.{AreWindowsOf, time_of, high_of, set_times}
use Rattle.local_propagate.proofs.JoinedLemmas.{place_at as number_at}
use Rattle.dispatcher.specs.declared.places.Place.{Place}
use Rattle.hs_base.specs.Moments.{MayGoOn}
use Rattle.dispatcher.specs.State.{State, IsLawful, IsOpen, points, ticked, time_in, moment}
use Rattle.dispatcher.specs.Places.{ArePlaces, member, place_at}
use Rattle.dispatcher.specs.Index.{AreSetBy, AreWaits}

-- functions with the same values are one
pub function_is : {X Y : Type 0} (f g : X → Y) → ((x : X) → f x ≡ g x) → f ≡ g
function_is f g h = λ i x. h x i

-- what a test of an option says
pub none_from : {X : Type 0} (o : Option X) → is_some o ≡ false → o ≡ None
none_from None h = refl
none_from (Some x) h = absurd (cc)

pub some_from : {X : Type 0} (o : Option X) → is_some o ≡ true → (x : X) × (o ≡ Some x)
some_from None h = absurd (cc)
some_from (Some x) h = (x, refl)

-- the windows' condition holds of each reduced network
pub joined : (c : ℕ) (net : Net) → IsReducedOf c (spread net) net → IsJoined net
joined c net is = record {
  leaders = record { each = leaders_differ c net is };
  edges = λ e ie. let k = edge_within c net is e ie in record { from = k.from; to = k.to; apart = k.apart; low = k.low; high = k.high };
}

module _ (c : ℕ) (net : Net) (is : IsReducedOf c (spread net) net) where
  groups : length (leaders_of net.groups) ≡ length net.groups
  groups = length-map net.groups (λ (g : Group). g.leader.0)

  -- a group by its number
  pub leader_is : (i : ℕ) (g : Group) → i < length net.groups → leader_at net i ≡ (get_or net.groups i g).leader.0
  leader_is i g ii = get_or-map (λ (g : Group). g.leader.0) net.groups i g 0 ii

  -- groups with one leader have one number
  pub number_is : (i j : ℕ) (g h : Group) → i < length net.groups → j < length net.groups → (get_or net.groups i g).leader.0 ≡ (get_or net.groups j h).leader.0 → i ≡ j
  number_is i j g h ii jj same = leaders_differ c net is i j (omega (arith, groups, ii)) (omega (arith, groups, jj)) (leader_is i g ii ∙ same ∙ sym (leader_is j h jj))

  module _ (places : List Place) (are : ArePlaces c net places) where
    -- a point of a group has its place there
    pub record PlaceIs (g : Group) (m : Member) : Type 0 where
      pub below : m.point.0 < c
      pub within : (place_at places m.point.0).group < length net.groups
      pub group : get_or net.groups (place_at places m.point.0).group g ≡ g
      pub offset : (place_at places m.point.0).offset ≡ m.offset

    pub place_is : (g : Group) (m : Member) → Contains net.groups g → Contains (stands g) m → PlaceIs g m
    place_is g m ig im =
        let o = offset_within c net is g m ig im in
        let p : Place = place_at places m.point.0 in
        let at = are.each m.point.0 o.below in
        let ih : Contains net.groups (get_or net.groups p.group g) = Contains-get_or net.groups p.group g at.within in
        let once = stands_once c net is (get_or net.groups p.group g) g (member m.point.0 p.offset) m ih ig (at.stands g) im refl in
        let j : ℕ = ig.0 in
        let there : get_or net.groups j g ≡ g = ig.2 in
        let same : p.group ≡ j = number_is p.group j g g at.within ig.1 (once.0 ∙ ap (λ (z : Group). z.leader.0) (sym there)) in
        record {
          below = o.below;
          within = at.within;
          group = ap (λ z. get_or net.groups z g) same ∙ there;
          offset = once.1;
        }

    -- a group's number is that of its leader's place
    pub leader_place : (i : ℕ) (d : Group) → i < length net.groups → (place_at places (get_or net.groups i d).leader.0).group ≡ i
    leader_place i d ii =
        let g : Group = get_or net.groups i d in
        let self : Member = record { point = g.leader; offset = pos 0 } in
        let k = place_is g self (Contains-get_or net.groups i d ii) (contains_from (stands g) self (inl refl)) in
        number_is (place_at places g.leader.0).group i g d k.within ii (ap (λ (z : Group). z.leader.0) k.group)

-- the windows are set by the executed points
module _ (net : Net) (times : List (Option ℤ)) (at : Times) (w : Windows) (of : AreWindowsOf net w) (by : w.times.items ≡ map (group_time at) net.groups) where
  pub time_of_group : (i : ℕ) (g : Group) → i < length net.groups → time_of w i ≡ group_time at (get_or net.groups i g)
  time_of_group i g ii = ap (λ z. get_or z i None) by ∙ get_or-map (group_time at) net.groups i g None ii

  pub set_times_are : set_times net w ≡ leader_times net.groups at
  set_times_are = ap (λ z. lookup_time net.groups z) by

-- a tick is allowed where the least latest times are later
module _ (s : State) (law : IsLawful s) (w : Windows) (places : List Place) (until : List ℤ) (by : AreSetBy s.net s.times w) (are : ArePlaces (points s) s.net places) (waits : AreWaits w places s.times until) where
  abbrev at : Times
  at = time_in s

  abbrev n : ℤ
  n = s.tick

  abbrev c : ℕ
  c = points s

  high : ℕ → ℤ
  high = λ a. high_of w (place_of (leaders_of s.net.groups) a)

  high_is : (g : Group) (ig : Contains s.net.groups g) → place_of (leaders_of s.net.groups) g.leader.0 ≡ ig.0
  high_is g ig =
      let there : leader_at s.net ig.0 ≡ g.leader.0 = leader_is c s.net law.reduced ig.0 g ig.1 ∙ ap (λ (z : Group). z.leader.0) ig.2 in
      ap (place_of (leaders_of s.net.groups)) (sym there) ∙ number_at (leaders_of s.net.groups) ig.0 by.are.joined.leaders (omega (arith, ig.1, length-map s.net.groups (λ (z : Group). z.leader.0)))

  are_high : AreHigh s.net at (λ a. high_of w (place_of (leaders_of s.net.groups) a))
  are_high = record {
    each = λ g ig none.
        let i : ℕ = ig.0 in
        let unset : time_of w i ≡ None = time_of_group s.net s.times at w by.are by.by i g ig.1 ∙ ap (group_time at) ig.2 ∙ none in
        let there : leader_at s.net i ≡ g.leader.0 = leader_is c s.net law.reduced i g ig.1 ∙ ap (λ (z : Group). z.leader.0) ig.2 in
        let v : high_of w (place_of (leaders_of s.net.groups) g.leader.0) ≡ get_or w.high i (pos 0) = ap (high_of w) (high_is g ig) ∙ rw unset refl in
        rw v (subst (λ a. IsHigh s.net.edges (leader_times s.net.groups at) a (get_or w.high i (pos 0))) there
        (subst (λ z. IsHigh s.net.edges z (leader_at s.net i) (get_or w.high i (pos 0))) (set_times_are s.net s.times at w by.are by.by) (by.are.high i ig.1 unset)));
  }

  -- what the least latest time of the unset groups says, and the least wait
  pub record Leasts (h u : ℤ) : Type 0 where
    pub h_bound : (i : ℕ) → i < length w.times.items → time_of w i ≡ None → h ≤ℤ high_of w i
    pub h_among : (h ≡ NEVER) ⊎ ((i : ℕ) × (i < length w.times.items) × (time_of w i ≡ None) × (h ≡ high_of w i))
    pub u_bound : All (λ x. u ≤ℤ x) until
    pub u_among : Contains until u

  pub later_goes_on : (h u : ℤ) → Leasts h u → n <ℤ h → n <ℤ u → MayGoOn (moment s)
  later_goes_on h u l nh nu = (windows_free c s.net law.reduced at n law.reached (λ a. high_of w (place_of (leaders_of s.net.groups) a)) are_high).1 (record {
    windows = λ g ig none.
        let unset : time_of w ig.0 ≡ None = time_of_group s.net s.times at w by.are by.by ig.0 g ig.1 ∙ ap (group_time at) ig.2 ∙ none in
        omega (arith, ints, nh, l.h_bound ig.0 (omega (arith, ig.1, by.are.groups)) unset, ap (high_of w) (high_is g ig));
    points = λ g t m ig is_set im none.
        let x : ℕ = m.point.0 in
        let p = place_is c s.net law.reduced places are g m ig im in
        let set_at : time_of w (place_at places x).group ≡ Some t = time_of_group s.net s.times at w by.are by.by (place_at places x).group g p.within ∙ ap (group_time at) p.group ∙ is_set in
        let wait_is : get_or until x (pos 0) ≡ t +ℤ (place_at places x).offset = waits.each x (pos 0) p.below ∙ rw (none, set_at) refl in
        omega (arith, ints, nu, wait_is, p.offset, l.u_bound x (pos 0) (omega (arith, p.below, waits.points)));
  })

  pub goes_on_later : (h u : ℤ) → Leasts h u → MayGoOn (moment s) → (n <ℤ h) × (n <ℤ u)
  goes_on_later h u l may =
      let later = (windows_free c s.net law.reduced at n law.reached (λ a. high_of w (place_of (leaders_of s.net.groups) a)) are_high).0 may in (
        elim l.h_among [
          | inl never ↦ omega (arith, ints, never, law.last)
          | inr r ↦
              let i : ℕ = r.0 in
              let ii : i < length s.net.groups = omega (arith, r.1, by.are.groups) in
              let d : Group = record { leader = record { 0 = 0 }; members = [] } in
              let g : Group = get_or s.net.groups i d in
              let ig : Contains s.net.groups g = Contains-get_or s.net.groups i d ii in
              let unset : group_time at g ≡ None = sym (time_of_group s.net s.times at w by.are by.by i d ii) ∙ r.2 in
              let place : place_of (leaders_of s.net.groups) g.leader.0 ≡ i = ap (place_of (leaders_of s.net.groups)) (sym (leader_is c s.net law.reduced i d ii)) ∙ number_at (leaders_of s.net.groups) i by.are.joined.leaders (omega (arith, ii, length-map s.net.groups (λ (z : Group). z.leader.0))) in
              omega (arith, ints, later.windows g ig unset, ap (high_of w) place, r.3)
        ],
        (
            let x : ℕ = l.u_among.0 in
            let ix : x < points s = omega (arith, l.u_among.1, waits.points) in
            let p : Place = place_at places x in
            let stand = are.each x ix in
            let d : Group = record { leader = record { 0 = 0 }; members = [] } in
            let g : Group = get_or s.net.groups p.group d in
            let ig : Contains s.net.groups g = Contains-get_or s.net.groups p.group d stand.within in
            let here : get_or until x u ≡ u = l.u_among.2 in
            let is = waits.each x u ix in
            let time_is = time_of_group s.net s.times at w by.are by.by p.group d stand.within in
            elim (cases_Option (at x)) [
              | inr done ↦ let v : get_or until x u ≡ NEVER = is ∙ rw done.1 refl in omega (arith, ints, v, here, law.last)
              | inl none ↦ elim (cases_Option (time_of w p.group)) [
                | inl unset ↦ let v : get_or until x u ≡ NEVER = is ∙ rw (none, unset) refl in omega (arith, ints, v, here, law.last)
                | inr some ↦
                    let v : get_or until x u ≡ some.0 +ℤ p.offset = is ∙ rw (none, some.1) refl in
                    omega (arith, ints, v, here, later.points g some.0 (member x p.offset) ig (sym time_is ∙ some.1) (stand.stands d) none)
              ]
            ]),
      )

-- a tick that may be taken stays within LAST, where a point is open
pub tick_within : (s : State) → IsLawful s → MayGoOn (moment s) → (x : ℕ) → IsOpen s x → (s.tick +ℤ pos 1) ≤ℤ LAST
tick_within s law may x is_open =
    let f = may.fits.meets in
    omega (arith, ints, may.later x is_open.below is_open.none, (law.reduced.tight.before_last x is_open.below).holds may.s f, f.origin)

pub ticked_lawful : (s : State) → IsLawful s → MayGoOn (moment s) → (x : ℕ) → IsOpen s x → IsLawful (ticked s)
ticked_lawful s law may x is_open = record {
  reduced = law.reduced;
  observed = law.observed;
  reached = after_tick (points s) s.net (time_in s) s.tick law.reached may;
  last = tick_within s law may x is_open;
}
