-- Which points now holds, by set groups and by marks.
use Rattle.std.proofs.Common.{◌≡◌, ℕ, ◌<◌, List, [], map, length, refl, sym, ap, ◌∙◌, subst, arith, pos, inl, inr, get_or, All, Option, Some, None, true, false}
use Rattle.std.proofs.lemmas.Int.{ints}
use Rattle.std.proofs.lemmas.Bool.{cases_lt, both_ways}
use Rattle.std.proofs.lemmas.List.{length-map, get_or-map, get_or_default, get_or_past}
use Rattle.std.proofs.lemmas.List.Elements.{Contains-get_or, All-from_get_or}
use Rattle.std.specs.Prelude.{ℤ, ◌+ℤ◌, ◌-ℤ◌, ◌↔◌, Contains, IsNone, MatchOption}
use Rattle.hs_base.specs.declared.ids.PointId.{PointId}
use Rattle.hs_base.specs.declared.net.Bound.{Bound}
use Rattle.hs_base.specs.declared.net.Member.{Member}
use Rattle.hs_base.specs.declared.net.Group.{Group}
use Rattle.hs_base.specs.Schedule.{bound, Tight}
use Rattle.hs_base.specs.Network.{spread}
use Rattle.hs_base.specs.Fits.{Times, LateBound}
use Rattle.hs_base.specs.Dispatch.{stands, group_time, leader_times, MarkedFrom, from_set, from_mark}
use Rattle.net_laws.proofs.ListLemmas.{contains_from}
use Rattle.net_laws.proofs.DispatchLemmas.{set as set_law, member as member_law, forced as forced_law}
use Rattle.net_laws.proofs.StepLemmas.{weight_inside}
use Rattle.net_laws.proofs.MarkLemmas.{origin_tight}
use Rattle.net_laws.proofs.AnswerLemmas.{marked_agree}
use Rattle.net_laws.proofs.MoveLemmas.{tick_or}
use Rattle.net_laws.proofs.NetworkLemmas.{offset_within, edge_within}
use Rattle.local_propagate.specs.Joined.{leaders_of, place_of}
use Rattle.local_propagate.specs.Windows.{time_of}
use Rattle.local_propagate.specs.declared.windows.Windows.{Windows}
use Rattle.local_propagate.proofs.JoinedLemmas.{stands_at}
use Rattle.local_propagate.proofs.SettingLemmas.{lookup_at}
use Rattle.dispatcher.specs.declared.places.Place.{Place}
use Rattle.hs_base.specs.Moments.{IsInTime, IsLate, IsTied, MayGoOn, MustFire}
use Rattle.dispatcher.specs.State.{State, IsLawful, IsOpen, is_observed, points, time_in, moment}
use Rattle.dispatcher.specs.Places.{StandsAt, ArePlaces, member, place_at}
use Rattle.dispatcher.specs.Index.{AreSetBy, IsWithin}
use Rattle.dispatcher.specs.Edges.{IsSetAt, IsKnownIn}
use Rattle.dispatcher.specs.Marks.{AreMarked, AreMarksOf, AreTimed, Forced, IsEdge, IsHeldBy, leader_time}
use Rattle.dispatcher.proofs.KeptLemmas.{joined, leader_is, leader_place, time_of_group}
use Rattle.dispatcher.proofs.FiringLemmas.{set_within}
use Rattle.dispatcher.proofs.MarkedLemmas.{complete}

abbrev pub no_group : Group
no_group = record { leader = record { 0 = 0 }; members = [] }

-- times that agree at the ends of the edges mark alike
from_agree : (edges : List Bound) (time other : Times) (n : ℤ) (agree : (e : Bound) → Contains edges e → (time e.from.0 ≡ other e.from.0) × (time e.to.0 ≡ other e.to.0)) (q u : ℕ) → MarkedFrom edges time n q u → MarkedFrom edges other n q u
from_agree edges time other n agree q _ (from_set e t ie is_q is_set none tight) =
    from_set e t ie is_q (ap other (sym is_q) ∙ sym (agree e ie).0 ∙ ap time is_q ∙ is_set) (sym (agree e ie).1 ∙ none) tight
from_agree edges time other n agree q _ (from_mark e ie mark none flat) = from_mark e ie (from_agree edges time other n agree q e.from.0 mark) (sym (agree e ie).1 ∙ none) flat

-- the edge that a mark comes from
origin_edge : (edges : List Bound) (time : Times) (n : ℤ) (q u : ℕ) → MarkedFrom edges time n q u → (e : Bound) × Contains edges e × (e.from.0 ≡ q) × ((t : ℤ) × (time q ≡ Some t))
origin_edge edges time n q _ (from_set e t ie is_q is_set none tight) = (e, ie, is_q, (t, is_set))
origin_edge edges time n q _ (from_mark e ie mark none flat) = origin_edge edges time n q e.from.0 mark

module _ (s : State) (law : IsLawful s) where
  abbrev at : Times
  at = time_in s

  abbrev n : ℤ
  n = s.tick

  abbrev c : ℕ
  c = points s

  -- a held point is forced
  pub held_forced : (x q : ℕ) → IsOpen s x → IsHeldBy s x q → Forced s x
  held_forced x q is_open h = record { each = λ f fits. omega (arith, ints, h.tight.implied.holds f fits.meets, fits.past q h.at h.executed, fits.future x is_open.below is_open.none) }

  -- an executed point's time is within LAST
  pub executed_within : (q : ℕ) (t : ℤ) → time_in s q ≡ Some t → IsWithin t
  executed_within q t is_t =
      let f = law.reached.fits.meets in
      let iq = law.reached.within q t is_t in
      let there = law.reached.fits.past q t is_t in
      record {
        low = omega (arith, ints, there, f.origin, (law.reduced.tight.after_origin q iq).holds law.reached.some f);
        high = omega (arith, ints, there, f.origin, (law.reduced.tight.before_last q iq).holds law.reached.some f);
      }

  -- no tick may be taken where a point is forced
  pub forced_stops : (x : ℕ) → IsOpen s x → Forced s x → MayGoOn (moment s) → ⊥
  forced_stops x is_open forced may = omega (arith, ints, forced.each may.s may.fits, may.later x is_open.below is_open.none)

  -- an observed point that is held is late after now
  pub held_late : (x q : ℕ) (h : IsHeldBy s x q) → is_observed s x ≡ true → at x ≡ None → IsLate (moment s) (bound q x (n -ℤ h.at))
  held_late x q h watched none = (
    record { from = q; to = x; most = n -ℤ h.at; at_from = h.at; set = h.executed; watched = watched; open_to = none; tight = h.tight; late = omega (arith, ints) },
    refl,
  )

  -- an observed point is one of the points
  watched_below : (x : ℕ) → is_observed s x ≡ true → x < c
  watched_below x watched = elim (cases_lt x c) [
    | inl ix ↦ ix
    | inr past ↦ absurd (let f : get_or s.observed x false ≡ false = get_or_past s.observed x false (omega (arith, past, law.observed)) in let g : get_or s.observed x false ≡ true = watched in both_ways _ f g)
  ]

  -- a point that a tick would make late is forced
  late_forced : (l : LateBound c (spread s.net) at n (is_observed s)) → Forced s l.to
  late_forced l = record {
    each = λ f fits. omega (arith, ints, l.tight.implied.holds f fits.meets, fits.past l.from l.at_from l.set, l.late, fits.future l.to (watched_below l.to l.watched) l.open_to);
  }

  -- where no point is due and no observed one is forced, a tick may be taken
  pub in_time : ((x : ℕ) → MustFire (moment s) x → ⊥) → ((x : ℕ) → is_observed s x ≡ true → IsOpen s x → Forced s x → ⊥) → MayGoOn (moment s)
  in_time none free = elim (tick_or c s.net law.reduced at n law.reached (is_observed s)) [
    | inl may ↦ may
    | inr r ↦ elim r [
      | inl due ↦ absurd (none due.0 due.1)
      | inr late ↦ absurd (free late.to late.watched (record { below = watched_below late.to late.watched; none = late.open_to }) (late_forced late))
    ]
  ]

  -- an answer of no bound says that the state is in time
  pub late_answers : (r : Option Bound) → (MayGoOn (moment s) → ⊥) → ((x : ℕ) → MustFire (moment s) x → ⊥) → MatchOption r ((x : ℕ) → is_observed s x ≡ true → IsOpen s x → Forced s x → ⊥) (IsLate (moment s)) → IsNone r ↔ IsInTime (moment s)
  late_answers None stops none free = (λ _. inl (in_time none free), λ _. refl)
  late_answers (Some b) stops none late = (λ e. absurd (cc), λ t. absurd (elim t [ inl may ↦ stops may | inr due ↦ none due.0 due.1 ]))

  -- a forced point that is not observed is due where no point is tied to it
  pub due_from : (x : ℕ) → IsOpen s x → Forced s x → is_observed s x ≡ false → ((y : ℕ) → IsTied (moment s) x y → ⊥) → MustFire (moment s) x
  due_from x is_open forced free none = record {
    below = is_open.below;
    none = is_open.none;
    forced = forced;
    free = free;
    untied = none;
  }

  pub due_untied : (x : ℕ) → MustFire (moment s) x → (y : ℕ) → IsTied (moment s) x y → ⊥
  due_untied x due = due.untied

  -- the number of a leader's group
  pub record LeaderIs (a : ℕ) : Type 0 where
    pub number : ℕ
    pub within : number < length s.net.groups
    pub is : a ≡ (get_or s.net.groups number no_group).leader.0
    pub time : leader_times s.net.groups at a ≡ group_time at (get_or s.net.groups number no_group)

  pub leader_place_of : (a : ℕ) → Contains (leaders_of s.net.groups) a → LeaderIs a
  leader_place_of a ia =
      let jn = joined c s.net law.reduced in
      let at_a = stands_at (leaders_of s.net.groups) a jn.leaders ia in
      let j : ℕ = place_of (leaders_of s.net.groups) a in
      let jj : j < length s.net.groups = omega (arith, at_a.within, length-map s.net.groups (λ (z : Group). z.leader.0)) in
      record {
        number = j;
        within = jj;
        is = sym at_a.is ∙ leader_is c s.net law.reduced j no_group jj;
        time = ap (leader_times s.net.groups at) (sym at_a.is) ∙ lookup_at s.net.groups (map (group_time at) s.net.groups) j jn.leaders jj ∙ get_or-map (group_time at) s.net.groups j no_group None jj;
      }

  leader_below : (a : ℕ) → Contains (leaders_of s.net.groups) a → a < c
  leader_below a ia =
      let l = leader_place_of a ia in
      let g : Group = get_or s.net.groups l.number no_group in
      let self : Member = record { point = g.leader; offset = pos 0 } in
      let o = offset_within c s.net law.reduced g self (Contains-get_or s.net.groups l.number no_group l.within) (contains_from (stands g) self (inl refl)) in
      omega (arith, o.below, l.is)

  pub are_edges : All (IsEdge c) s.net.edges
  are_edges = All-from_get_or (IsEdge c) s.net.edges (bound 0 0 (pos 0)) (λ i ii.
      let e = edge_within c s.net law.reduced (get_or s.net.edges i (bound 0 0 (pos 0))) (Contains-get_or s.net.edges i (bound 0 0 (pos 0)) ii) in
      record { from = leader_below _ e.from; to = leader_below _ e.to; low = e.low; high = e.high })

  -- in a group that is set
  module _ (x : ℕ) (p : Place) (stand : StandsAt s.net x p) where
    ig : Contains s.net.groups (get_or s.net.groups p.group no_group)
    ig = Contains-get_or s.net.groups p.group no_group stand.within

    module _ (t : ℤ) (is_set : IsSetAt s p.group t) where
      pub set_held : t +ℤ p.offset ≡ n → (m : Member) → IsKnownIn s p.group t m → IsHeldBy s x m.point.0
      set_held now m known =
          let w : p.offset -ℤ m.offset ≡ n -ℤ (t +ℤ m.offset) = omega (arith, ints, now) in
          record {
            at = t +ℤ m.offset;
            executed = known.executed;
            tight = subst (Tight (spread s.net) m.point.0 x) w (weight_inside c s.net law.reduced (get_or s.net.groups p.group no_group) m (member x p.offset) ig (known.stands no_group) (stand.stands no_group));
          }

      pub set_free : (t +ℤ p.offset ≡ n → ⊥) → Forced s x → ⊥
      set_free other forced =
          let is = set_law c s.net at n law.reduced law.reached (get_or s.net.groups p.group no_group) (member x p.offset) t ig (stand.stands no_group) (is_set no_group) law.reached.some law.reached.fits in
          other (sym is ∙ forced.each law.reached.some law.reached.fits)

    -- in a group that is not
    module _ (unset : (g : Group) → group_time at (get_or s.net.groups p.group g) ≡ None) where
      by_leader : Forced s x → (p.offset ≡ pos 0) × Forced s (get_or s.net.groups p.group no_group).leader.0
      by_leader = ((member_law c s.net at n law.reduced law.reached (get_or s.net.groups p.group no_group) (member x p.offset) ig (stand.stands no_group) (unset no_group)).0).0

      pub off_free : (p.offset ≡ pos 0 → ⊥) → Forced s x → ⊥
      off_free other forced = other (by_leader forced).0

      pub unmarked_free : (marks : List (Option PointId)) (g : Group) → AreMarksOf s marks → get_or marks (get_or s.net.groups p.group g).leader.0 None ≡ None → Forced s x → ⊥
      unmarked_free marks g are none forced =
          let h : Group = get_or s.net.groups p.group no_group in
          let same : get_or s.net.groups p.group g ≡ h = get_or_default s.net.groups p.group g no_group stand.within in
          let marked = (forced_law c s.net at n law.reduced law.reached h ig (unset no_group)).0 (by_leader forced).1 in
          let some = are.all h.leader.0 marked in
          let gone : get_or marks h.leader.0 None ≡ None = ap (λ (z : Group). get_or marks z.leader.0 None) (sym same) ∙ none in
          absurd (let f : false ≡ true = rw gone at some in cc)

  -- by marks
  module _ (places : List Place) (are : ArePlaces c s.net places) where
    place_number : (a : ℕ) (l : LeaderIs a) → (place_at places a).group ≡ l.number
    place_number a l = ap (λ z. (place_at places z).group) l.is ∙ leader_place c s.net law.reduced places are l.number no_group l.within

    -- the group that a mark comes from
    pub record OriginIs (q : ℕ) : Type 0 where
      pub below : q < c
      pub within : (place_at places q).group < length s.net.groups
      pub leader : (get_or s.net.groups (place_at places q).group no_group).leader.0 ≡ q
      pub at : ℤ
      pub is_set : IsSetAt s (place_at places q).group at

    pub origin_is : (q u : ℕ) → MarkedFrom s.net.edges (leader_times s.net.groups (time_in s)) s.tick q u → OriginIs q
    origin_is q u mark =
        let o = origin_edge s.net.edges (leader_times s.net.groups (time_in s)) s.tick q u mark in
        let iq : Contains (leaders_of s.net.groups) q = subst (λ z. Contains (leaders_of s.net.groups) z) o.2 (edge_within c s.net law.reduced o.0 o.1).from in
        let l = leader_place_of q iq in
        let number = place_number q l in
        let t : ℤ = o.3.0 in
        let same : group_time (time_in s) (get_or s.net.groups (place_at places q).group no_group) ≡ Some t = ap (λ z. group_time (time_in s) (get_or s.net.groups z no_group)) number ∙ sym l.time ∙ o.3.1 in
        let within : (place_at places q).group < length s.net.groups = omega (arith, number, l.within) in
        record {
          below = leader_below q iq;
          within = within;
          leader = ap (λ z. (get_or s.net.groups z no_group).leader.0) number ∙ sym l.is;
          at = t;
          is_set = λ g. ap (group_time (time_in s)) (get_or_default s.net.groups (place_at places q).group g no_group within) ∙ same;
        }

    pub mark_held : (x : ℕ) (p : Place) → StandsAt s.net x p → ((g : Group) → group_time (time_in s) (get_or s.net.groups p.group g) ≡ None) → p.offset ≡ pos 0
        → (g : Group) (q : ℕ) → (mark : MarkedFrom s.net.edges (leader_times s.net.groups (time_in s)) s.tick q (get_or s.net.groups p.group g).leader.0)
        → (m : Member) → IsKnownIn s (place_at places q).group (origin_is q (get_or s.net.groups p.group g).leader.0 mark).at m → IsHeldBy s x m.point.0
    mark_held x p stand unset flat g q mark m known =
        let h : Group = get_or s.net.groups p.group g in
        let o = origin_is q h.leader.0 mark in
        let k : Group = get_or s.net.groups (place_at places q).group no_group in
        record {
          at = o.at +ℤ m.offset;
          executed = known.executed;
          tight = origin_tight c s.net law.reduced (time_in s) s.tick law.reached q h.leader.0 k h m (member x p.offset) (o.at +ℤ m.offset) mark
              (Contains-get_or s.net.groups (place_at places q).group no_group o.within) (Contains-get_or s.net.groups p.group g stand.within) o.leader refl (known.stands no_group) (stand.stands g) known.executed flat (unset g);
        }

    -- marks by windows are those of the state
    module _ (w : Windows) (by : AreSetBy s.net s.times w) where
      leader_agrees : (a : ℕ) → Contains (leaders_of s.net.groups) a → leader_time w places a ≡ leader_times s.net.groups (time_in s) a
      leader_agrees a ia =
          let l = leader_place_of a ia in
          ap (time_of w) (place_number a l) ∙ time_of_group s.net s.times (time_in s) w by.are by.by l.number no_group l.within ∙ sym l.time

      agree : (e : Bound) → Contains s.net.edges e → (leader_time w places e.from.0 ≡ leader_times s.net.groups (time_in s) e.from.0) × (leader_time w places e.to.0 ≡ leader_times s.net.groups (time_in s) e.to.0)
      agree e ie = let k = edge_within c s.net law.reduced e ie in (leader_agrees e.from.0 k.from, leader_agrees e.to.0 k.to)

      pub marks_of : (marks : List (Option PointId)) → length marks ≡ c → AreMarked s.net.edges (leader_time w places) s.tick marks → AreMarksOf s marks
      marks_of marks long is = record {
        points = long;
        sound = record { each = λ x q m. from_agree s.net.edges (leader_time w places) (leader_times s.net.groups (time_in s)) s.tick agree q.0 x (is.sound.each x q m) };
        all = λ u m. complete s.net.edges (leader_time w places) s.tick marks is.all u
            (marked_agree s.net.edges (leader_times s.net.groups (time_in s)) (leader_time w places) s.tick (λ e ie. (sym (agree e ie).0, sym (agree e ie).1)) u m);
      }

      pub are_timed : AreTimed c w places
      are_timed = record {
        size = are.points;
        groups = λ x ix. omega (arith, (are.each x ix).within, by.are.groups);
        times = λ x t is. elim (cases_lt (place_at places x).group (length s.net.groups)) [
          | inl ii ↦ set_within s law (place_at places x).group t ii (λ g. sym (time_of_group s.net s.times (time_in s) w by.are by.by (place_at places x).group g ii) ∙ is)
          | inr past ↦ absurd (let f : time_of w (place_at places x).group ≡ None = get_or_past w.times.items (place_at places x).group None (omega (arith, past, by.are.groups)) in let g = is in cc)
        ];
      }
