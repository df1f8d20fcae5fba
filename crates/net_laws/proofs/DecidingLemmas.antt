-- Kept edges decide what may be executed.
use Rattle.std.proofs.Common.{◌≡◌, ◌≢◌, ℕ, zero, suc, ◌<◌, cond, List, [], ◌∷◌, refl, sym, ap, ◌∙◌, subst, arith, pos, inl, inr, ◌⊎◌, ◌↔◌, Option, Some, None, eqb}
use Rattle.std.proofs.lemmas.Int.{ints}
use Rattle.std.proofs.lemmas.Bool.{cases_eq, eq-eqb, ne_eqb}
use Rattle.std.specs.Prelude.{ℤ, ◌+ℤ◌, ◌-ℤ◌, ◌≤ℤ◌, ◌<ℤ◌, map, Contains}
use Rattle.hs_base.specs.declared.net.Bound.{Bound}
use Rattle.hs_base.specs.declared.net.Member.{Member}
use Rattle.hs_base.specs.declared.net.Group.{Group}
use Rattle.hs_base.specs.Schedule.{Schedule, bound}
use Rattle.hs_base.specs.Network.{spread}
use Rattle.hs_base.specs.Reduced.{Table, IsTable, leaders, group_of, edges_of, reduced}
use Rattle.hs_base.specs.Fits.{Times, Fits, MayBeNow, MayTick, IsForced}
use Rattle.hs_base.specs.Dispatch.{stands, group_time, leader_times, IsEnabled, IsFree, Marked, IsReached, by_set as at_set, by_mark as at_mark}
use Rattle.net_laws.proofs.BetweenLemmas.{Has, IsKept}
use Rattle.net_laws.proofs.KeptLemmas.{cases_sign}
use Rattle.net_laws.proofs.LeaderLemmas.{cases_Option, Situation, MarkedLeader, by_set, by_mark, lets_all, reach_all, mark_all, marked_now, earliest, earliest_above, earliest_least, earliest_step}
use Rattle.net_laws.proofs.ListLemmas.{has_from, contains_from, has_map, map_has}
use Rattle.net_laws.proofs.GroupLemmas.{Rigid, rigid_to_all, rigid_from_all, rigid_back, has_leader, leaders_web, leader_of, LeaderOf}
use Rattle.net_laws.proofs.ExactLemmas.{Keeps, EdgeOf, edge_of, edge_has, admits_keeps, keeps_admits}
use Rattle.net_laws.proofs.TimeLemmas.{time_by_some, time_by_none, leader_time_is, StandsIn, stands_in, in_stands}

module _ (c : ℕ) (d : Table) (is : IsTable c d) (at : Times) (n : ℤ) (now : IsReached c (reduced c d) at n) where
  -- the leaders' times
  abbrev time : ℕ → Option ℤ
  time = leader_times (map (group_of c d) (leaders c d)) at

  keeps : (s : Schedule) → Fits c (spread (reduced c d)) at n s → Keeps c d s
  keeps s h = admits_keeps c d is s h.meets

  -- a point of a group stands its offset after the leader in each schedule
  after_leader : (s : Schedule) → Keeps c d s → (a x : ℕ) → a < c → x < c → Rigid d a x → s x ≡ s a +ℤ d a x
  after_leader s k a x ia ix r = omega (arith, ints, r.sum, k.step a x ia ix, k.step x a ix ia)

  set_by : (a : ℕ) (t : ℤ) → Has (leaders c d) a → time a ≡ Some t → (m : Member) × (u : ℤ) × StandsIn c d a m × (at m.point.0 ≡ Some u) × (t ≡ u -ℤ m.offset)
  set_by a t ia e =
      let r = time_by_some at (stands (group_of c d a)) t (sym (leader_time_is c d at (leaders c d) a ia) ∙ e) in
      (r.0, r.1, stands_in c d is a (has_leader c d is a ia).0 r.0 r.2, r.3, r.4)

  unset_by : (a q : ℕ) → Has (leaders c d) a → time a ≡ None → q < c → Rigid d a q → at q ≡ None
  unset_by a q ia e iq r =
      let m = in_stands c d a q iq r in
      subst (λ z. at z ≡ None) m.2 (time_by_none at (stands (group_of c d a)) (sym (leader_time_is c d at (leaders c d) a ia) ∙ e) m.0 m.1)

  situation : (s : Schedule) → Fits c (spread (reduced c d)) at n s → Situation d (leaders c d) time n s
  situation s h = record {
    holds = λ a e ia ie. (keeps s h).step a e (has_leader c d is a ia).0 (has_leader c d is e ie).0;
    past = λ a t ia e.
        let r = set_by a t ia e in
        omega (arith, ints, r.4, r.2.offset, h.past r.0.point.0 r.1 r.3, after_leader s (keeps s h) a r.0.point.0 (has_leader c d is a ia).0 r.2.below r.2.rigid);
    late = λ a t ia e.
        let r = set_by a t ia e in
        omega (arith, ints, r.4, r.2.offset, now.late r.0.point.0 r.1 r.3, ((has_leader c d is a ia).1 r.0.point.0 r.2.below r.2.rigid).early);
    future = λ a ia e.
        let l = has_leader c d is a ia in
        h.future a l.0 (unset_by a a ia e l.0 (record { sum = omega (arith, ints, is.self a l.0) }));
  }

  -- an executed point's group is set
  leader_set : (x : ℕ) (u : ℤ) (l : LeaderOf c d is x) → x < c → at x ≡ Some u → (t : ℤ) × (time l.at ≡ Some t)
  leader_set x u l ix e = elim (cases_Option (time l.at)) [
    | inl none ↦ let g : at x ≡ None = unset_by l.at x l.has none ix l.rigid in absurd (cc)
    | inr some ↦ some
  ]

  -- floors of the leaders under which the earliest schedule fits
  record Floor (low : ℕ → ℤ) : Type 0 where
    set : (a : ℕ) (t : ℤ) → Has (leaders c d) a → time a ≡ Some t → low a ≡ t
    unset : (a : ℕ) → Has (leaders c d) a → time a ≡ None → n ≤ℤ low a
    under : (x y : ℕ) (t : ℤ) → Has (leaders c d) x → Has (leaders c d) y → time x ≡ Some t → (low y -ℤ d x y) ≤ℤ t

  module _ (low : ℕ → ℤ) (floor : Floor low) (z : ℕ) (iz : Has (leaders c d) z) where
    abbrev soon : Schedule
    soon = earliest d low z (leaders c d)

    soon_keeps : Keeps c d soon
    soon_keeps = record {
      step = λ p q ip iq. earliest_step d low z (leaders c d) p q
          (is.triangle p q z ip iq (has_leader c d is z iz).0)
          (λ y iy. is.triangle p q y ip iq (has_leader c d is y iy).0);
    }

    soon_above : (a : ℕ) → Has (leaders c d) a → low a ≤ℤ soon a
    soon_above a ia = omega (arith, ints, is.self a (has_leader c d is a ia).0, earliest_above d low z (leaders c d) a a ia)

    soon_set : (a : ℕ) (t : ℤ) → Has (leaders c d) a → time a ≡ Some t → soon a ≡ t
    soon_set a t ia e =
        let below : soon a ≤ℤ t = earliest_least d low z (leaders c d) a t (floor.under a z t ia iz e) (λ y iy. floor.under a y t ia iy e) in
        omega (arith, ints, below, soon_above a ia, floor.set a t ia e)

    -- points of set groups stand where they do in each fitting schedule
    soon_past : (x : ℕ) (t : ℤ) (l : LeaderOf c d is x) → x < c → time l.at ≡ Some t → soon x ≡ now.some x
    soon_past x t l ix e =
        omega (
          arith,
          ints,
          soon_set l.at t l.has e,
          (situation now.some now.fits).past l.at t l.has e,
          after_leader soon soon_keeps l.at x l.below ix l.rigid,
          after_leader now.some (keeps now.some now.fits) l.at x l.below ix l.rigid,
        )

    soon_executed : (x : ℕ) (u : ℤ) → x < c → at x ≡ Some u → soon x ≡ now.some x
    soon_executed x u ix e =
        let l = leader_of c d is x ix in
        let t = leader_set x u l ix e in
        soon_past x t.0 l ix t.1

    soon_fits : Fits c (spread (reduced c d)) at n soon
    soon_fits =
        record {
          meets = keeps_admits c d is soon (soon_executed 0 (pos 0) (now.within 0 (pos 0) now.origin) now.origin ∙ now.fits.past 0 (pos 0) now.origin) soon_keeps;
          past = λ x t e. soon_executed x t (now.within x t e) e ∙ now.fits.past x t e;
          future = λ x ix none.
              let l = leader_of c d is x ix in
              elim (cases_Option (time l.at)) [
                | inr some ↦ omega (arith, ints, soon_past x some.0 l ix some.1, now.fits.future x ix none)
                | inl unset ↦ omega (arith, ints, after_leader soon soon_keeps l.at x l.below ix l.rigid, l.early, floor.unset l.at l.has unset, soon_above l.at l.has)
              ];
        }

  -- the floor that an optional time gives
  abbrev floor_of : Option ℤ → ℤ → ℤ
  floor_of None m = m
  floor_of (Some t) m = t

  floor_some : (a : ℕ) (t m : ℤ) → time a ≡ Some t → floor_of (time a) m ≡ t
  floor_some a t m e = rw e refl

  floor_none : (a : ℕ) (m : ℤ) → time a ≡ None → floor_of (time a) m ≡ m
  floor_none a m e = rw e refl

  -- the leader of Z, from which earliest times begin
  origin_leader : (z : ℕ) × Has (leaders c d) z
  origin_leader = let k = leader_of c d is 0 (now.within 0 (pos 0) now.origin) in (k.at, k.has)

  edge_in : (a e : ℕ) → Has (leaders c d) a → Has (leaders c d) e → IsKept d (leaders c d) a e → Contains (edges_of d (leaders c d)) (bound a e (d a e))
  edge_in a e ia ie k = contains_from (edges_of d (leaders c d)) (bound a e (d a e)) (edge_has d (leaders c d) a e ia ie k)

  edge_is : (e : Bound) → Contains (edges_of d (leaders c d)) e → EdgeOf d (leaders c d) e
  edge_is e i = edge_of d (leaders c d) e (has_from (edges_of d (leaders c d)) e i)

  -- a leader may fire exactly where it is enabled
  floor_now : Floor (λ y. floor_of (time y) n)
  floor_now = record {
    set = λ a t ia e. floor_some a t n e;
    unset = λ a ia e. omega (arith, ints, floor_none a n e);
    under = λ x y t ix iy e.
        let sit = situation now.some now.fits in
        elim (cases_Option (time y)) [
          | inl none ↦ omega (arith, ints, floor_none y n none, sit.future y iy none, sit.past x t ix e, sit.holds x y ix iy)
          | inr some ↦ omega (arith, ints, floor_some y some.0 n some.1, sit.past y some.0 iy some.1, sit.past x t ix e, sit.holds x y ix iy)
        ];
  }

  enabled_may : (a : ℕ) → Has (leaders c d) a → time a ≡ None → IsEnabled (edges_of d (leaders c d)) time n a → MayBeNow c (spread (reduced c d)) at n a
  enabled_may a ia none h =
      let z = origin_leader in
      let sit = situation now.some now.fits in
      let kept = λ (b : ℕ) (ib : Has (leaders c d) b) (k : IsKept d (leaders c d) a b) (low : d a b <ℤ pos 0). h (bound a b (d a b)) (edge_in a b ia ib k) refl low in
      let all = lets_all d (leaders c d) (leaders_web c d is) time n now.some sit a ia kept in
      let each : (y : ℕ) → Has (leaders c d) y → (floor_of (time y) n -ℤ d a y) ≤ℤ n = λ y iy. elim (cases_sign (d a y)) [
        | inl up ↦ elim (cases_Option (time y)) [
          | inl unset ↦ omega (arith, ints, floor_none y n unset, up)
          | inr some ↦ omega (arith, ints, floor_some y some.0 n some.1, up, sit.late y some.0 iy some.1)
        ]
        | inr down ↦ let go = all y iy down in omega (arith, ints, floor_some y go.at n go.set, go.gone)
      ] in
      let below : soon (λ y. floor_of (time y) n) floor_now z.0 z.1 a ≤ℤ n = earliest_least d (λ y. floor_of (time y) n) z.0 (leaders c d) a n (each z.0 z.1) each in
      record {
        s = soon (λ y. floor_of (time y) n) floor_now z.0 z.1;
        fits = soon_fits (λ y. floor_of (time y) n) floor_now z.0 z.1;
        here = omega (arith, ints, below, soon_above (λ y. floor_of (time y) n) floor_now z.0 z.1 a ia, floor_none a n none);
      }

  may_enabled : (a : ℕ) → Has (leaders c d) a → MayBeNow c (spread (reduced c d)) at n a → IsEnabled (edges_of d (leaders c d)) time n a
  may_enabled a ia h e ie from low =
      let r = edge_is e ie in
      let sit = situation h.s h.fits in
      let step = sit.holds e.from.0 e.to.0 r.from_in r.to_in in
      elim (cases_Option (time e.to.0)) [
        | inl none ↦ absurd (omega (arith, ints, sit.future e.to.0 r.to_in none, step, r.weight, ap h.s from, h.here, low))
        | inr some ↦ record { at = some.0; set = some.1; gone = omega (arith, ints, sit.past e.to.0 some.0 r.to_in some.1, step, r.weight, ap h.s from, h.here) }
      ]

  -- the time may go on exactly where nothing is held at now
  tick_free : MayTick c (spread (reduced c d)) at n → IsFree (reduced c d) at n
  tick_free h =
      let sit = situation h.s h.fits in
      record {
        edges = λ e t ie set unset.
            let r = edge_is e ie in
            let l = (has_leader c d is e.to.0 r.to_in).0 in
            omega (
              arith,
              ints,
              r.weight,
              sit.past e.from.0 t r.from_in set,
              sit.holds e.from.0 e.to.0 r.from_in r.to_in,
              h.later e.to.0 l (unset_by e.to.0 e.to.0 r.to_in unset l (record { sum = omega (arith, ints, is.self e.to.0 l) })),
            );
        points = λ g t m ig set im none.
            let a = has_map (group_of c d) (leaders c d) g (has_from (map (group_of c d) (leaders c d)) g ig) in
            let ia = (has_leader c d is a.0 a.1).0 in
            let ms : Has (stands (group_of c d a.0)) m = subst (λ z. Has (stands z) m) (sym a.2) (has_from (stands g) m im) in
            let sin = stands_in c d is a.0 ia m ms in
            let set' : time a.0 ≡ Some t = leader_time_is c d at (leaders c d) a.0 a.1 ∙ ap (group_time at) a.2 ∙ set in
            omega (arith, ints, sin.offset, sit.past a.0 t a.1 set', h.later m.point.0 sin.below none, after_leader h.s (keeps h.s h.fits) a.0 m.point.0 ia sin.below sin.rigid);
      }

  module _ (h : IsFree (reduced c d) at n) where
    reach : (q u : ℕ) (t : ℤ) → Has (leaders c d) q → Has (leaders c d) u → time q ≡ Some t → time u ≡ None → (n +ℤ pos 1) ≤ℤ (t +ℤ d q u)
    reach = reach_all d (leaders c d) (leaders_web c d is) time n now.some (situation now.some now.fits)
        (λ q u t iq iu set none k. h.edges (bound q u (d q u)) t (edge_in q u iq iu k) set none)

    floor_later : Floor (λ y. floor_of (time y) (n +ℤ pos 1))
    floor_later = record {
      set = λ a t ia e. floor_some a t (n +ℤ pos 1) e;
      unset = λ a ia e. omega (arith, ints, floor_none a (n +ℤ pos 1) e);
      under = λ x y t ix iy e.
          let sit = situation now.some now.fits in
          elim (cases_Option (time y)) [
            | inl none ↦ omega (arith, ints, floor_none y (n +ℤ pos 1) none, reach x y t ix iy e none)
            | inr some ↦ omega (arith, ints, floor_some y some.0 (n +ℤ pos 1) some.1, sit.past y some.0 iy some.1, sit.past x t ix e, sit.holds x y ix iy)
          ];
    }

    free_tick : MayTick c (spread (reduced c d)) at n
    free_tick =
        let z = origin_leader in
        let low : ℕ → ℤ = λ y. floor_of (time y) (n +ℤ pos 1) in
        record {
          s = soon low floor_later z.0 z.1;
          fits = soon_fits low floor_later z.0 z.1;
          later = λ x ix none.
              let l = leader_of c d is x ix in
              let sum = after_leader (soon low floor_later z.0 z.1) (soon_keeps low floor_later z.0 z.1) l.at x l.below ix l.rigid in
              elim (cases_Option (time l.at)) [
                | inl unset ↦ omega (arith, ints, sum, l.early, soon_above low floor_later z.0 z.1 l.at l.has, floor_none l.at (n +ℤ pos 1) unset)
                | inr some ↦
                    let g = group_of c d l.at in
                    let m = in_stands c d l.at x ix l.rigid in
                    let sin = stands_in c d is l.at l.below m.0 m.1 in
                    let p = h.points g some.0 m.0 (contains_from (map (group_of c d) (leaders c d)) g (map_has (group_of c d) (leaders c d) l.at l.has))
                    (sym (leader_time_is c d at (leaders c d) l.at l.has) ∙ some.1) (contains_from (stands g) m.0 m.1) (subst (λ q. at q ≡ None) (sym m.2) none) in
                    omega (arith, ints, sum, soon_set low floor_later z.0 z.1 l.at some.0 l.has some.1, p, sin.offset, ap (d l.at) m.2)
              ];
        }

  -- the forced leaders are the marked ones
  reach_or : (u : ℕ) (qs : List ℕ) → ((q : ℕ) (t : ℤ) → Has qs q → time q ≡ Some t → (n +ℤ pos 1) ≤ℤ (t +ℤ d q u)) ⊎ ((q : ℕ) × (t : ℤ) × Has qs q × (time q ≡ Some t) × ((t +ℤ d q u) ≤ℤ n))
  reach_or u [] = inl (λ q t i e. absurd i)
  reach_or u (k ∷ qs) = elim (reach_or u qs) [
    | inr r ↦ inr (r.0, r.1, inr r.2, r.3, r.4)
    | inl all ↦ elim (cases_Option (time k)) [
      | inl none ↦ inl (λ q t i e. elim i [
        | inl same ↦ absurd (let g : time q ≡ None = subst (λ z. time z ≡ None) same none in cc)
        | inr j ↦ all q t j e
      ])
      | inr some ↦ elim (cases_sign (n -ℤ (some.0 +ℤ d k u))) [
        | inl low ↦ inr (k, some.0, inl refl, some.1, omega (arith, ints, low))
        | inr high ↦ inl (λ q t i e. elim i [
          | inl same ↦
              let g : time q ≡ Some some.0 = subst (λ z. time z ≡ Some some.0) same some.1 in
              let h : t ≡ some.0 = cc in
              omega (arith, ints, high, h, ap (λ z. d z u) same)
          | inr j ↦ all q t j e
        ])
      ]
    ]
  ]

  module _ (u : ℕ) (iu : Has (leaders c d) u) (none : time u ≡ None) where
    abbrev low_but : ℕ → ℤ
    low_but y = cond (eqb y u) (n +ℤ pos 1) (floor_of (time y) n)

    low_here : low_but u ≡ n +ℤ pos 1
    low_here = rw (eq-eqb u u refl) refl

    low_there : (y : ℕ) → y ≢ u → low_but y ≡ floor_of (time y) n
    low_there y h = rw (ne_eqb y u h) refl

    floor_but : ((q : ℕ) (t : ℤ) → Has (leaders c d) q → time q ≡ Some t → (n +ℤ pos 1) ≤ℤ (t +ℤ d q u)) → Floor low_but
    floor_but all = record {
      set = λ a t ia e. elim (cases_eq a u) [
        | inl same ↦ absurd (let g : time u ≡ Some t = subst (λ z. time z ≡ Some t) same e in cc)
        | inr other ↦ low_there a other ∙ floor_now.set a t ia e
      ];
      unset = λ a ia e. elim (cases_eq a u) [
        | inl same ↦ omega (arith, ints, ap low_but same, low_here)
        | inr other ↦ omega (arith, ints, low_there a other, floor_now.unset a ia e)
      ];
      under = λ x y t ix iy e. elim (cases_eq y u) [
        | inl same ↦ omega (arith, ints, ap low_but same, low_here, ap (d x) same, all x t ix e)
        | inr other ↦ omega (arith, ints, low_there y other, floor_now.under x y t ix iy e)
      ];
    }

    forced_marked : IsForced c (spread (reduced c d)) at n u → MarkedLeader d (leaders c d) time n u
    forced_marked h = elim (reach_or u (leaders c d)) [
      | inl all ↦
          let z = origin_leader in
          absurd (omega (arith, ints, h.each (soon low_but (floor_but all) z.0 z.1) (soon_fits low_but (floor_but all) z.0 z.1), soon_above low_but (floor_but all) z.0 z.1 u iu, low_here))
      | inr r ↦
          let sit = situation now.some now.fits in
          mark_all d (leaders c d) (leaders_web c d is) time n now.some sit r.0 u r.1 r.2 iu r.3 none
          (omega (arith, ints, r.4, sit.past r.0 r.1 r.2 r.3, sit.holds r.0 u r.2 iu, sit.future u iu none))
    ]

  -- the points of a group follow their leader
  module _ (a : ℕ) (ia : Has (leaders c d) a) (m : Member) (im : Has (stands (group_of c d a)) m) where
    abbrev sin : StandsIn c d a m
    sin = stands_in c d is a (has_leader c d is a ia).0 m im

    stands_after : (s : Schedule) → Fits c (spread (reduced c d)) at n s → s m.point.0 ≡ s a +ℤ m.offset
    stands_after s h = omega (arith, ints, sin.offset, after_leader s (keeps s h) a m.point.0 (has_leader c d is a ia).0 sin.below sin.rigid)

    not_before : pos 0 ≤ℤ m.offset
    not_before = omega (arith, ints, sin.offset, ((has_leader c d is a ia).1 m.point.0 sin.below sin.rigid).early)

    member_forced : time a ≡ None → IsForced c (spread (reduced c d)) at n m.point.0 ↔ ((m.offset ≡ pos 0) × IsForced c (spread (reduced c d)) at n a)
    member_forced none = (
      λ h.
          let here = λ (s : Schedule) (f : Fits c (spread (reduced c d)) at n s). (situation s f).future a ia none in (
            omega (arith, ints, not_before, h.each now.some now.fits, stands_after now.some now.fits, here now.some now.fits),
            record { each = λ s f. omega (arith, ints, not_before, h.each s f, stands_after s f, here s f) },
          ),
      λ h. record { each = λ s f. omega (arith, ints, h.0, h.1.each s f, stands_after s f) },
    )

    member_may : time a ≡ None → MayBeNow c (spread (reduced c d)) at n m.point.0 ↔ ((m.offset ≡ pos 0) × MayBeNow c (spread (reduced c d)) at n a)
    member_may none = (
      λ h.
          let here = (situation h.s h.fits).future a ia none in (
            omega (arith, ints, not_before, h.here, stands_after h.s h.fits, here),
            record { s = h.s; fits = h.fits; here = omega (arith, ints, not_before, h.here, stands_after h.s h.fits, here) },
          ),
      λ h. record { s = h.1.s; fits = h.1.fits; here = omega (arith, ints, h.0, h.1.here, stands_after h.1.s h.1.fits) },
    )

    member_set : (t : ℤ) → time a ≡ Some t → (s : Schedule) → Fits c (spread (reduced c d)) at n s → s m.point.0 ≡ t +ℤ m.offset
    member_set t set s f = omega (arith, ints, stands_after s f, (situation s f).past a t ia set)

  -- a forced leader is held by a set one
  held_by : (u : ℕ) → Has (leaders c d) u → time u ≡ None → IsForced c (spread (reduced c d)) at n u → (q : ℕ) × (t : ℤ) × Has (leaders c d) q × (time q ≡ Some t) × ((t +ℤ d q u) ≤ℤ n)
  held_by u iu none h = elim (reach_or u (leaders c d)) [
    | inl all ↦
        let z = origin_leader in
        absurd (omega (arith, ints, h.each (soon (low_but u iu none) (floor_but u iu none all) z.0 z.1) (soon_fits (low_but u iu none) (floor_but u iu none all) z.0 z.1), soon_above (low_but u iu none) (floor_but u iu none all) z.0 z.1 u iu, low_here u iu none))
    | inr r ↦ r
  ]

  -- so a forced point is held by an executed one
  pub held_point : (x : ℕ) → x < c → at x ≡ None → IsForced c (spread (reduced c d)) at n x → (p : ℕ) × (u : ℤ) × (p < c) × (at p ≡ Some u) × ((u +ℤ d p x) ≤ℤ n)
  held_point x ix none h =
      let l = leader_of c d is x ix in
      elim (cases_Option (time l.at)) [
        | inr some ↦
            let r = set_by l.at some.0 l.has some.1 in
            let a = now.fits.past r.0.point.0 r.1 r.3 in
            let b = after_leader now.some (keeps now.some now.fits) l.at r.0.point.0 l.below r.2.below r.2.rigid in
            let e = after_leader now.some (keeps now.some now.fits) l.at x l.below ix l.rigid in
            let sum = rigid_to_all c d is r.0.point.0 l.at x r.2.below l.below ix (rigid_back c d is l.at r.0.point.0 r.2.rigid) in
            (r.0.point.0, r.1, r.2.below, r.3, omega (arith, ints, a, b, e, sum, r.2.rigid.sum, h.each now.some now.fits))
        | inl unset ↦
            let m = in_stands c d l.at x ix l.rigid in
            let both = (member_forced l.at l.has m.0 m.1 unset).0 (subst (λ z. IsForced c (spread (reduced c d)) at n z) (sym m.2) h) in
            let sm = stands_in c d is l.at l.below m.0 m.1 in
            let q = held_by l.at l.has unset both.1 in
            let r = set_by q.0 q.1 q.2 q.3 in
            let iq = (has_leader c d is q.0 q.2).0 in
            let one = rigid_to_all c d is r.0.point.0 q.0 x r.2.below iq ix (rigid_back c d is q.0 r.0.point.0 r.2.rigid) in
            let two = rigid_from_all c d is l.at x q.0 l.below ix iq l.rigid in
            (r.0.point.0, r.1, r.2.below, r.3, omega (arith, ints, one, two, q.4, r.4, r.2.offset, r.2.rigid.sum, both.0, sm.offset, ap (d l.at) m.2))
      ]

  -- or a bound of it is broken by its execution now
  record Broken (x q : ℕ) : Type 0 where
    is_it : ((t : ℤ) × (at q ≡ Some t) × (d x q <ℤ (t -ℤ n))) ⊎ ((at q ≡ None) × (d x q <ℤ pos 0))

  record Kind (x q : ℕ) : Type 0 where
    past : (t : ℤ) → at q ≡ Some t → (t -ℤ n) ≤ℤ d x q
    open_ : at q ≡ None → pos 0 ≤ℤ d x q

  kind_or : (x q : ℕ) → Kind x q ⊎ Broken x q
  kind_or x q = elim (cases_Option (at q)) [
    | inl none ↦ elim (cases_sign (d x q)) [
      | inl up ↦ inl (record { past = λ t e. absurd (cc); open_ = λ e. up })
      | inr down ↦ inr (record { is_it = inr (none, down) })
    ]
    | inr some ↦ elim (cases_sign (d x q -ℤ (some.0 -ℤ n))) [
      | inl up ↦ inl (record { past = λ t e. let f = some.1 in let same : t ≡ some.0 = cc in omega (arith, ints, up, same); open_ = λ e. absurd (let f = some.1 in cc) })
      | inr down ↦ inr (record { is_it = inl (some.0, some.1, omega (arith, ints, down)) })
    ]
  ]

  kinds_or : (x k : ℕ) → ((q : ℕ) → q < k → Kind x q) ⊎ ((q : ℕ) × (q < k) × Broken x q)
  kinds_or x zero = inl (λ q i. absurd (omega (arith, i)))
  kinds_or x (suc k) = elim (kinds_or x k) [
    | inr r ↦ inr (r.0, omega (arith, r.1), r.2)
    | inl all ↦ elim (kind_or x k) [
      | inr b ↦ inr (k, omega arith, b)
      | inl one ↦ inl (λ q i. elim (cases_eq q k) [ inl same ↦ subst (Kind x) (sym same) one | inr other ↦ all q (omega (arith, i, other)) ])
    ]
  ]

  kind_may : (x : ℕ) → x < c → at x ≡ None → ((q : ℕ) → q < c → Kind x q) → MayBeNow c (spread (reduced c d)) at n x
  kind_may x ix none all =
      let l = leader_of c d is x ix in
      elim (cases_Option (time l.at)) [
        | inr some ↦
            let r = set_by l.at some.0 l.has some.1 in
            let a = now.fits.past r.0.point.0 r.1 r.3 in
            let b = after_leader now.some (keeps now.some now.fits) l.at r.0.point.0 l.below r.2.below r.2.rigid in
            let e = after_leader now.some (keeps now.some now.fits) l.at x l.below ix l.rigid in
            let sum = rigid_to_all c d is x l.at r.0.point.0 ix l.below r.2.below (rigid_back c d is l.at x l.rigid) in
            record { s = now.some; fits = now.fits; here = omega (arith, ints, a, b, e, sum, l.rigid.sum, (all r.0.point.0 r.2.below).past r.1 r.3, now.fits.future x ix none) }
        | inl unset ↦
            let m = in_stands c d l.at x ix l.rigid in
            let sm = stands_in c d is l.at l.below m.0 m.1 in
            let flat : d l.at x ≡ pos 0 = omega (arith, ints, l.early, l.rigid.sum, (all l.at l.below).open_ (unset_by l.at l.at l.has unset l.below (record { sum = omega (arith, ints, is.self l.at l.below) }))) in
            let enabled : IsEnabled (edges_of d (leaders c d)) time n l.at = λ e ie from neg.
            let edge = edge_is e ie in
            let ib = (has_leader c d is e.to.0 edge.to_in).0 in
            let same : d l.at e.to.0 ≡ e.most = ap (λ z. d z e.to.0) (sym from) ∙ sym edge.weight in
            elim (cases_Option (time e.to.0)) [
              | inl other ↦
                  let g = (all e.to.0 ib).open_ (unset_by e.to.0 e.to.0 edge.to_in other ib (record { sum = omega (arith, ints, is.self e.to.0 ib) })) in
                  absurd (omega (arith, ints, g, same, flat, neg, is.triangle x l.at e.to.0 ix l.below ib, is.triangle l.at x e.to.0 l.below ix ib, rigid_to_all c d is l.at x e.to.0 l.below ix ib l.rigid))
              | inr some ↦
                  let r = set_by e.to.0 some.0 edge.to_in some.1 in
                  let k = (all r.0.point.0 r.2.below).past r.1 r.3 in
                  let one = rigid_to_all c d is l.at x r.0.point.0 l.below ix r.2.below l.rigid in
                  let two = rigid_from_all c d is e.to.0 r.0.point.0 l.at ib r.2.below l.below r.2.rigid in
                  record { at = some.0; set = some.1; gone = omega (arith, ints, k, one, two, same, flat, r.4, r.2.offset) }
            ] in
            subst (λ z. MayBeNow c (spread (reduced c d)) at n z) m.2
            ((member_may l.at l.has m.0 m.1 unset).1 (omega (arith, ints, sm.offset, ap (d l.at) m.2, flat), enabled_may l.at l.has unset enabled))
      ]

  pub may_or_broken : (x : ℕ) → x < c → at x ≡ None → MayBeNow c (spread (reduced c d)) at n x ⊎ ((q : ℕ) × (q < c) × (((t : ℤ) × (at q ≡ Some t) × (d x q <ℤ (t -ℤ n))) ⊎ ((at q ≡ None) × (d x q <ℤ pos 0))))
  may_or_broken x ix none = elim (kinds_or x c) [
    | inl all ↦ inl (kind_may x ix none all)
    | inr r ↦ inr (r.0, r.1, r.2.is_it)
  ]

  to_net : (u : ℕ) → MarkedLeader d (leaders c d) time n u → Marked (edges_of d (leaders c d)) time n u
  to_net _ (by_set q u t iq iu set none k tight) = at_set (bound q u (d q u)) t (edge_in q u iq iu k) set none tight
  to_net _ (by_mark v u iv iu mark none k flat) = at_mark (bound v u (d v u)) (edge_in v u iv iu k) (to_net v mark) none flat

  from_net : (u : ℕ) → Marked (edges_of d (leaders c d)) time n u → MarkedLeader d (leaders c d) time n u
  from_net _ (at_set e t ie set none tight) = let r = edge_is e ie in by_set e.from.0 e.to.0 t r.from_in r.to_in set none r.kept (omega (arith, ints, r.weight, tight))
  from_net _ (at_mark e ie mark none flat) = let r = edge_is e ie in by_mark e.from.0 e.to.0 r.from_in r.to_in (from_net e.from.0 mark) none r.kept (omega (arith, ints, r.weight, flat))

  marked_forced : (u : ℕ) → Marked (edges_of d (leaders c d)) time n u → IsForced c (spread (reduced c d)) at n u
  marked_forced u m = record { each = λ s h. marked_now d (leaders c d) time n s (situation s h) u (from_net u m) }

  -- the four items for the groups of the network
  pub may_fire_when_enabled : (g : Group) → Contains (reduced c d).groups g → group_time at g ≡ None → MayBeNow c (spread (reduced c d)) at n g.leader.0 ↔ IsEnabled (edges_of d (leaders c d)) time n g.leader.0
  may_fire_when_enabled g ig none =
      let a = has_map (group_of c d) (leaders c d) g (has_from (map (group_of c d) (leaders c d)) g ig) in
      let none' : time a.0 ≡ None = leader_time_is c d at (leaders c d) a.0 a.1 ∙ ap (group_time at) a.2 ∙ none in
      subst (λ (z : Group). MayBeNow c (spread (reduced c d)) at n z.leader.0 ↔ IsEnabled (edges_of d (leaders c d)) time n z.leader.0) a.2
      (may_enabled a.0 a.1, enabled_may a.0 a.1 none')

  pub may_tick_when_free : MayTick c (spread (reduced c d)) at n ↔ IsFree (reduced c d) at n
  may_tick_when_free = (tick_free, free_tick)

  pub forced_when_marked : (g : Group) → Contains (reduced c d).groups g → group_time at g ≡ None → IsForced c (spread (reduced c d)) at n g.leader.0 ↔ Marked (edges_of d (leaders c d)) time n g.leader.0
  forced_when_marked g ig none =
      let a = has_map (group_of c d) (leaders c d) g (has_from (map (group_of c d) (leaders c d)) g ig) in
      let none' : time a.0 ≡ None = leader_time_is c d at (leaders c d) a.0 a.1 ∙ ap (group_time at) a.2 ∙ none in
      subst (λ (z : Group). IsForced c (spread (reduced c d)) at n z.leader.0 ↔ Marked (edges_of d (leaders c d)) time n z.leader.0) a.2
      (λ h. to_net a.0 (forced_marked a.0 a.1 none' h), marked_forced a.0)

  pub members_follow : (g : Group) (m : Member) → Contains (reduced c d).groups g → Contains (stands g) m → group_time at g ≡ None
      → (IsForced c (spread (reduced c d)) at n m.point.0 ↔ ((m.offset ≡ pos 0) × IsForced c (spread (reduced c d)) at n g.leader.0))
      × (MayBeNow c (spread (reduced c d)) at n m.point.0 ↔ ((m.offset ≡ pos 0) × MayBeNow c (spread (reduced c d)) at n g.leader.0))
  members_follow g m ig im none =
      let a = has_map (group_of c d) (leaders c d) g (has_from (map (group_of c d) (leaders c d)) g ig) in
      let none' : time a.0 ≡ None = leader_time_is c d at (leaders c d) a.0 a.1 ∙ ap (group_time at) a.2 ∙ none in
      let ms : Has (stands (group_of c d a.0)) m = subst (λ z. Has (stands z) m) (sym a.2) (has_from (stands g) m im) in
      subst (λ (z : Group). (IsForced c (spread (reduced c d)) at n m.point.0 ↔ ((m.offset ≡ pos 0) × IsForced c (spread (reduced c d)) at n z.leader.0))
      × (MayBeNow c (spread (reduced c d)) at n m.point.0 ↔ ((m.offset ≡ pos 0) × MayBeNow c (spread (reduced c d)) at n z.leader.0))) a.2
      (member_forced a.0 a.1 m ms none', member_may a.0 a.1 m ms none')

  pub members_of_set : (g : Group) (m : Member) (t : ℤ) → Contains (reduced c d).groups g → Contains (stands g) m → group_time at g ≡ Some t → (s : Schedule) → Fits c (spread (reduced c d)) at n s → s m.point.0 ≡ t +ℤ m.offset
  members_of_set g m t ig im set s f =
      let a = has_map (group_of c d) (leaders c d) g (has_from (map (group_of c d) (leaders c d)) g ig) in
      let set' : time a.0 ≡ Some t = leader_time_is c d at (leaders c d) a.0 a.1 ∙ ap (group_time at) a.2 ∙ set in
      let ms : Has (stands (group_of c d a.0)) m = subst (λ z. Has (stands z) m) (sym a.2) (has_from (stands g) m im) in
      member_set a.0 a.1 m ms t set' s f
