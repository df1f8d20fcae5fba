-- Why a point may be executed now, or which bound bars that.
use Rattle.std.proofs.Common.{◌≡◌, ℕ, ◌<◌, [], map, length, refl, sym, ap, ◌∙◌, subst, arith, pos, inl, inr, get_or, Some, None, ◌↔◌, Ok, Err, Result, w64, FitsSigned, to_z, of_z}
use Rattle.std.proofs.lemmas.Int.{ints, to_z-of_z}
use Rattle.std.proofs.lemmas.List.{length-map, get_or-map}
use Rattle.std.proofs.lemmas.List.Elements.{Contains-get_or}
use Rattle.std.specs.Prelude.{ℤ, ◌+ℤ◌, ◌-ℤ◌, ◌≤ℤ◌, ◌<ℤ◌, neg_ℤ, Contains, IsOk, MatchResult}
use Rattle.hs_base.specs.declared.limits.TheConstants.{LAST}
use Rattle.hs_base.specs.declared.net.Bound.{Bound}
use Rattle.hs_base.specs.declared.net.Member.{Member}
use Rattle.hs_base.specs.declared.net.Group.{Group}
use Rattle.hs_base.specs.Schedule.{bound, Tight}
use Rattle.hs_base.specs.Network.{spread}
use Rattle.hs_base.specs.Fits.{Times}
use Rattle.hs_base.specs.Dispatch.{stands, group_time, leader_times}
use Rattle.net_laws.proofs.BetweenLemmas.{Has}
use Rattle.net_laws.proofs.KeptLemmas.{cases_sign}
use Rattle.net_laws.proofs.ListLemmas.{contains_from}
use Rattle.net_laws.proofs.TimeLemmas.{time_by_none}
use Rattle.net_laws.proofs.DispatchLemmas.{fire, set as set_law, member as member_law}
use Rattle.net_laws.proofs.StepLemmas.{weight_inside, weight_along}
use Rattle.net_laws.proofs.AnswerLemmas.{bound_bars}
use Rattle.net_laws.proofs.NetworkLemmas.{offset_within, edge_within, group_time_within}
use Rattle.local_propagate.specs.declared.neighbours.Neighbour.{Neighbour}
use Rattle.local_propagate.specs.Joined.{leaders_of, leader_at, place_of, after_of}
use Rattle.local_propagate.proofs.JoinedLemmas.{stands_at}
use Rattle.local_propagate.proofs.SettingLemmas.{lookup_at, after_has, has_after}
use Rattle.dispatcher.specs.declared.places.Place.{Place}
use Rattle.hs_base.specs.Moments.{Bars, MayFire}
use Rattle.dispatcher.specs.State.{State, IsLawful, IsOpen, points, time_in, moment}
use Rattle.dispatcher.specs.Places.{StandsAt, member}
use Rattle.dispatcher.specs.Index.{IsWithin}
use Rattle.dispatcher.specs.Edges.{IsSetAt, IsKnownIn, LeadsTo, LetsFire}
use Rattle.dispatcher.proofs.KeptLemmas.{joined, leader_is}

module _ (s : State) (law : IsLawful s) where
  abbrev at : Times
  at = time_in s

  abbrev n : ℤ
  n = s.tick

  abbrev c : ℕ
  c = points s

  -- a point that is barred may not be executed
  pub barred_may_not : (x : ℕ) (b : Bound) → x < c → Bars (moment s) x b → MayFire (moment s) x → ⊥
  barred_may_not x b ix bars may = bound_bars c s.net law.reduced at n law.reached x ix bars.0 may

  module _ (x : ℕ) (is_open : IsOpen s x) (p : Place) (stand : StandsAt s.net x p) where
    ig : Contains s.net.groups (get_or s.net.groups p.group (record { leader = record { 0 = 0 }; members = [] }))
    ig = Contains-get_or s.net.groups p.group (record { leader = record { 0 = 0 }; members = [] }) stand.within

    me_within : (pos 0 ≤ℤ p.offset) × (p.offset ≤ℤ LAST)
    me_within = let o = offset_within c s.net law.reduced (get_or s.net.groups p.group (record { leader = record { 0 = 0 }; members = [] })) (member x p.offset) ig (stand.stands (record { leader = record { 0 = 0 }; members = [] })) in (o.low, o.high)

    -- in a set group
    stood : (t : ℤ) → IsSetAt s p.group t → law.reached.some x ≡ t +ℤ p.offset
    stood t is_set = set_law c s.net at n law.reduced law.reached (get_or s.net.groups p.group (record { leader = record { 0 = 0 }; members = [] })) (member x p.offset) t ig (stand.stands (record { leader = record { 0 = 0 }; members = [] })) (is_set (record { leader = record { 0 = 0 }; members = [] })) law.reached.some law.reached.fits

    pub set_may : (t : ℤ) → IsSetAt s p.group t → t +ℤ p.offset ≡ n → MayFire (moment s) x
    set_may t is_set now = record { s = law.reached.some; fits = law.reached.fits; here = stood t is_set ∙ now }

    pub set_bars : (t : ℤ) → IsSetAt s p.group t → (m : Member) → IsKnownIn s p.group t m → (t +ℤ p.offset ≡ n → ⊥) → Bars (moment s) x (bound x m.point.0 (m.offset -ℤ p.offset))
    set_bars t is_set m known other =
        let d : Group = record { leader = record { 0 = 0 }; members = [] } in
        let is = stood t is_set in
        let later = law.reached.fits.future x is_open.below is_open.none in
        let o = offset_within c s.net law.reduced (get_or s.net.groups p.group d) m ig (known.stands d) in
        let apart : n <ℤ (t +ℤ p.offset) = elim (cases_sign (n -ℤ (t +ℤ p.offset))) [
          | inl up ↦ absurd (other (omega (arith, ints, up, is, later)))
          | inr down ↦ omega (arith, ints, down)
        ] in (
          record {
            to = m.point.0;
            most = m.offset -ℤ p.offset;
            below = o.below;
            tight = weight_inside c s.net law.reduced (get_or s.net.groups p.group d) (member x p.offset) m ig (stand.stands d) (known.stands d);
            broken = inl (t +ℤ m.offset, known.executed, omega (arith, ints, apart));
          },
          refl,
        )

    -- in a group that isn't set
    module _ (unset : (g : Group) → group_time at (get_or s.net.groups p.group g) ≡ None) where
      pub leader_bars : (g : Group) → (p.offset ≡ pos 0 → ⊥) → Bars (moment s) x (bound x (get_or s.net.groups p.group g).leader.0 (pos 0 -ℤ p.offset))
      leader_bars g other =
          let h : Group = get_or s.net.groups p.group g in
          let jg : Contains s.net.groups h = Contains-get_or s.net.groups p.group g stand.within in
          let self : Member = record { point = h.leader; offset = pos 0 } in
          let i_self = contains_from (stands h) self (inl refl) in
          let o = offset_within c s.net law.reduced h self jg i_self in
          let up : pos 0 <ℤ p.offset = elim (cases_sign (pos 0 -ℤ p.offset)) [
            | inl low ↦ absurd (other (omega (arith, ints, low, me_within.0)))
            | inr high ↦ omega (arith, ints, high)
          ] in (
            record {
              to = h.leader.0;
              most = pos 0 -ℤ p.offset;
              below = o.below;
              tight = weight_inside c s.net law.reduced h (member x p.offset) self jg (stand.stands g) i_self;
              broken = inr (time_by_none at (stands h) (unset g) self (inl refl), omega (arith, ints, up));
            },
            refl,
          )

  -- a neighbour bars, or lets fire
  module _ (x : ℕ) (is_open : IsOpen s x) (i : ℕ) (stand : StandsAt s.net x (record { group = i; offset = pos 0 })) (next : Neighbour) (leads : LeadsTo s.net i next) (down : next.most <ℤ pos 0) where
    own_leader : (g : Group) → (get_or s.net.groups i g).leader.0 ≡ leads.edge.from.0
    own_leader g = sym (leader_is c s.net law.reduced i g stand.within) ∙ sym leads.from

    next_leader : (g : Group) → (get_or s.net.groups next.group g).leader.0 ≡ leads.edge.to.0
    next_leader g = sym (leader_is c s.net law.reduced next.group g leads.within) ∙ sym leads.to

    pub unset_bars : (g : Group) → group_time at (get_or s.net.groups next.group g) ≡ None → Bars (moment s) x (bound x (get_or s.net.groups next.group g).leader.0 next.most)
    unset_bars g unset =
        let h : Group = get_or s.net.groups next.group g in
        let ih : Contains s.net.groups h = Contains-get_or s.net.groups next.group g leads.within in
        let self : Member = record { point = h.leader; offset = pos 0 } in
        let i_self = contains_from (stands h) self (inl refl) in
        let o = offset_within c s.net law.reduced h self ih i_self in
        let w : (leads.edge.most +ℤ pos 0) -ℤ pos 0 ≡ next.most = omega (arith, ints, leads.most) in (
          record {
            to = h.leader.0;
            most = next.most;
            below = o.below;
            tight = subst (Tight (spread s.net) x h.leader.0) w (weight_along c s.net law.reduced leads.edge (get_or s.net.groups i g) h (member x (pos 0)) self leads.among (Contains-get_or s.net.groups i g stand.within) ih (own_leader g) (next_leader g) (stand.stands g) i_self);
            broken = inr (time_by_none at (stands h) unset self (inl refl), down);
          },
          refl,
        )

    pub late_bars : (t : ℤ) → IsSetAt s next.group t → n <ℤ (t -ℤ next.most) → (m : Member) → IsKnownIn s next.group t m → Bars (moment s) x (bound x m.point.0 (next.most +ℤ m.offset))
    late_bars t is_set late m known =
        let d : Group = record { leader = record { 0 = 0 }; members = [] } in
        let h : Group = get_or s.net.groups next.group d in
        let ih : Contains s.net.groups h = Contains-get_or s.net.groups next.group d leads.within in
        let o = offset_within c s.net law.reduced h m ih (known.stands d) in
        let w : (leads.edge.most +ℤ m.offset) -ℤ pos 0 ≡ next.most +ℤ m.offset = omega (arith, ints, leads.most) in (
          record {
            to = m.point.0;
            most = next.most +ℤ m.offset;
            below = o.below;
            tight = subst (Tight (spread s.net) x m.point.0) w (weight_along c s.net law.reduced leads.edge (get_or s.net.groups i d) h (member x (pos 0)) m leads.among (Contains-get_or s.net.groups i d stand.within) ih (own_leader d) (next_leader d) (stand.stands d) (known.stands d));
            broken = inl (t +ℤ m.offset, known.executed, omega (arith, ints, late));
          },
          refl,
        )

  -- each neighbour of a group stands for an edge
  pub leads_to : (i : ℕ) → i < length s.net.groups → (n : Neighbour) → Has (after_of (leaders_of s.net.groups) s.net.edges (leader_at s.net i)) n → LeadsTo s.net i n
  leads_to i ii n j =
      let jn = joined c s.net law.reduced in
      let r = has_after (leaders_of s.net.groups) s.net.edges jn.leaders (leader_at s.net i) n j in
      let at_to = stands_at (leaders_of s.net.groups) r.0.to.0 jn.leaders (jn.edges r.0 r.1).to in
      record {
        edge = r.0;
        among = r.1;
        from = r.2;
        to = sym at_to.is ∙ ap (leader_at s.net) r.3;
        most = r.4;
        within = omega (arith, at_to.within, r.3, length-map s.net.groups (λ (g : Group). g.leader.0));
      }

  -- where all neighbours let it, the point may be executed
  pub all_let : (x : ℕ) (i : ℕ) → StandsAt s.net x (record { group = i; offset = pos 0 }) → ((g : Group) → group_time at (get_or s.net.groups i g) ≡ None)
      → ((n : Neighbour) → Has (after_of (leaders_of s.net.groups) s.net.edges (leader_at s.net i)) n → LetsFire s n) → MayFire (moment s) x
  all_let x i stand unset lets =
      let d : Group = record { leader = record { 0 = 0 }; members = [] } in
      let g : Group = get_or s.net.groups i d in
      let ig : Contains s.net.groups g = Contains-get_or s.net.groups i d stand.within in
      let jn = joined c s.net law.reduced in
      let leader : leader_at s.net i ≡ g.leader.0 = leader_is c s.net law.reduced i d stand.within in
      let may = (fire c s.net at n law.reduced law.reached g ig (unset d)).1 (λ e ie from neg.
      let at_to = stands_at (leaders_of s.net.groups) e.to.0 jn.leaders (jn.edges e ie).to in
      let j : ℕ = place_of (leaders_of s.net.groups) e.to.0 in
      let jj : j < length s.net.groups = omega (arith, at_to.within, length-map s.net.groups (λ (z : Group). z.leader.0)) in
      let next : Neighbour = record { group = j; most = e.most } in
      let r = (lets next (after_has (leaders_of s.net.groups) s.net.edges jn.leaders (leader_at s.net i) e ie (from ∙ sym leader))).lets neg d in
      let there : leader_times s.net.groups at e.to.0 ≡ Some r.0 = ap (leader_times s.net.groups at) (sym at_to.is) ∙ lookup_at s.net.groups (map (group_time at) s.net.groups) j jn.leaders jj ∙ get_or-map (group_time at) s.net.groups j d None jj ∙ r.1 in
      record { at = r.0; set = there; gone = r.2 }) in
      ((member_law c s.net at n law.reduced law.reached g (member x (pos 0)) ig (stand.stands d) (unset d)).1).1 (refl, may)

-- numbers that fit
module _ (s : State) (law : IsLawful s) where
  pub set_within : (i : ℕ) (t : ℤ) → i < length s.net.groups → IsSetAt s i t → IsWithin t
  set_within i t ii is_set =
      let d : Group = record { leader = record { 0 = 0 }; members = [] } in
      let r = group_time_within (points s) s.net law.reduced (time_in s) s.tick law.reached (get_or s.net.groups i d) t (Contains-get_or s.net.groups i d ii) (is_set d) in
      record { low = r.low; high = r.high }

  pub place_within : (x : ℕ) (p : Place) → StandsAt s.net x p → IsWithin p.offset
  place_within x p stand =
      let d : Group = record { leader = record { 0 = 0 }; members = [] } in
      let o = offset_within (points s) s.net law.reduced (get_or s.net.groups p.group d) (member x p.offset) (Contains-get_or s.net.groups p.group d stand.within) (stand.stands d) in
      record { low = o.low; high = o.high }

  pub known_within : (i : ℕ) (t : ℤ) (m : Member) → i < length s.net.groups → IsKnownIn s i t m → IsWithin m.offset
  known_within i t m ii known =
      let d : Group = record { leader = record { 0 = 0 }; members = [] } in
      let o = offset_within (points s) s.net law.reduced (get_or s.net.groups i d) m (Contains-get_or s.net.groups i d ii) (known.stands d) in
      record { low = o.low; high = o.high }

  pub next_within : (i : ℕ) (n : Neighbour) → LeadsTo s.net i n → (neg_ℤ LAST ≤ℤ n.most) × (n.most ≤ℤ LAST)
  next_within i n leads = let e = edge_within (points s) s.net law.reduced leads.edge leads.among in (omega (arith, ints, e.low, leads.most), omega (arith, ints, e.high, leads.most))

-- a number that is computed and compared
pub same_bits : (x y : ℤ) → FitsSigned w64 x → FitsSigned w64 y → of_z w64 x ≡ of_z w64 y → x ≡ y
same_bits x y fx fy h = sym (to_z-of_z w64 x fx) ∙ ap (to_z w64) h ∙ to_z-of_z w64 y fy

-- an answer decides whether the point may be executed
pub answer_decides : {T : Type 0} (s : State) → IsLawful s → (x : ℕ) → x < points s → (r : Result T Bound) → MatchResult r (λ _. MayFire (moment s) x) (Bars (moment s) x) → IsOk r ↔ MayFire (moment s) x
answer_decides s law x ix (Ok u) h = (λ _. h, λ _. refl)
answer_decides s law x ix (Err b) h = (λ e. absurd (cc), λ may. absurd (barred_may_not s law x b ix h may))
