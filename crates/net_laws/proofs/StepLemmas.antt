-- What the executive needs besides: ties, tight weights, progress, and that a reached state stays one.
use Rattle.std.proofs.Common.{◌≡◌, ◌≢◌, ℕ, ◌<◌, List, [], ◌∷◌, refl, sym, ap, ◌∙◌, subst, arith, pos, inl, inr, ◌⊎◌, ◌↔◌, Some, None}
use Rattle.std.proofs.lemmas.Int.{ints}
use Rattle.std.proofs.lemmas.Bool.{cases_eq, eq-eqb, ne_eqb}
use Rattle.std.specs.Prelude.{ℤ, ◌+ℤ◌, ◌-ℤ◌, ◌≤ℤ◌, map, Contains}
use Rattle.hs_base.specs.declared.net.Bound.{Bound}
use Rattle.hs_base.specs.declared.net.Member.{Member}
use Rattle.hs_base.specs.declared.net.Group.{Group}
use Rattle.hs_base.specs.declared.net.Net.{Net}
use Rattle.hs_base.specs.Schedule.{Tight}
use Rattle.hs_base.specs.Network.{spread}
use Rattle.hs_base.specs.Reduced.{Table, IsTable, IsReducedOf, leaders, group_of, edges_of}
use Rattle.hs_base.specs.Fits.{Times, MayBeNow, MayTick, IsForced, IsOneTime, put}
use Rattle.hs_base.specs.Dispatch.{stands, group_time, leader_times, IsReached, by_set as at_set}
use Rattle.net_laws.proofs.BetweenLemmas.{Has}
use Rattle.net_laws.proofs.KeptLemmas.{cases_sign}
use Rattle.net_laws.proofs.LeaderLemmas.{cases_Option}
use Rattle.net_laws.proofs.ListLemmas.{has_from, contains_from, has_map, map_has}
use Rattle.net_laws.proofs.GroupLemmas.{Rigid, rigid_to_all, rigid_from_all, rigid_join, rigid_back, one_leader, has_leader}
use Rattle.net_laws.proofs.ExactLemmas.{table_of, EdgeOf, edge_of}
use Rattle.net_laws.proofs.TimeLemmas.{StandsIn, stands_in, leader_time_is, time_by_none}
use Rattle.net_laws.proofs.DispatchLemmas.{tick, forced, set}

-- one more time
module _ (c : ℕ) (net : Net) (at : Times) (n : ℤ) (now : IsReached c net at n) where
  put_here : (x : ℕ) (t : ℤ) → put at x t x ≡ Some t
  put_here x t = rw (eq-eqb x x refl) refl

  put_there : (x y : ℕ) (t : ℤ) → y ≢ x → put at x t y ≡ at y
  put_there x y t h = rw (ne_eqb y x h) refl

  -- an executed point keeps the state a reached one
  pub fired : (x : ℕ) → x < c → at x ≡ None → MayBeNow c (spread net) at n x → IsReached c net (put at x n) n
  fired x ix none may =
      let split : (y : ℕ) (t : ℤ) → put at x n y ≡ Some t → ((y ≡ x) × (t ≡ n)) ⊎ ((y ≢ x) × (at y ≡ Some t)) = λ y t e. elim (cases_eq y x) [
        | inl same ↦ let g : put at x n x ≡ Some t = subst (λ z. put at x n z ≡ Some t) same e in
            let h : Some n ≡ Some t = sym (put_here x n) ∙ g in inl (same, cc)
        | inr other ↦ inr (other, sym (put_there x y n other) ∙ e)
      ] in
      record {
        origin = elim (cases_eq 0 x) [
          | inl same ↦ absurd (let g : at 0 ≡ None = subst (λ z. at z ≡ None) (sym same) none in let h = now.origin in cc)
          | inr other ↦ put_there x 0 n other ∙ now.origin
        ];
        within = λ y t e. elim (split y t e) [ inl r ↦ omega (arith, r.0, ix) | inr r ↦ now.within y t r.1 ];
        late = λ y t e. elim (split y t e) [ inl r ↦ omega (arith, ints, r.1) | inr r ↦ now.late y t r.1 ];
        some = may.s;
        fits = record {
          meets = may.fits.meets;
          past = λ y t e. elim (split y t e) [ inl r ↦ omega (arith, ints, ap may.s r.0, may.here, r.1) | inr r ↦ may.fits.past y t r.1 ];
          future = λ y iy e. elim (cases_eq y x) [
            | inl same ↦ absurd (let g : put at x n x ≡ None = subst (λ z. put at x n z ≡ None) same e in let h = put_here x n in cc)
            | inr other ↦ may.fits.future y iy (sym (put_there x y n other) ∙ e)
          ];
        };
      }

  -- so does a tick
  pub ticked : MayTick c (spread net) at n → IsReached c net at (n +ℤ pos 1)
  ticked may = record {
    origin = now.origin;
    within = now.within;
    late = λ y t e. omega (arith, ints, now.late y t e);
    some = may.s;
    fits = record { meets = may.fits.meets; past = may.fits.past; future = may.later };
  }

-- ties and weights
module _ (c : ℕ) (net : Net) (is : IsReducedOf c (spread net) net) where
  abbrev d : Table
  d = is.table

  abbrev table : IsTable c d
  table = table_of c (spread net) d is.tight

  -- a group of the network is that of a leader
  pub record GroupIs (g : Group) : Type 0 where
    pub at : ℕ
    pub has : Has (leaders c d) at
    pub below : at < c
    pub is_it : group_of c d at ≡ g
    pub leader : at ≡ g.leader.0

  pub group_is : (g : Group) → Contains net.groups g → GroupIs g
  group_is g ig =
      let jg : Contains (map (group_of c d) (leaders c d)) g = subst (λ (z : Net). Contains z.groups g) is.is ig in
      let a = has_map (group_of c d) (leaders c d) g (has_from (map (group_of c d) (leaders c d)) g jg) in
      record { at = a.0; has = a.1; below = (has_leader c d table a.0 a.1).0; is_it = a.2; leader = ap (λ (z : Group). z.leader.0) a.2 }

  pub stands_is : (g : Group) (k : GroupIs g) (m : Member) → Contains (stands g) m → StandsIn c d k.at m
  stands_is g k m im = stands_in c d table k.at k.below m (subst (λ z. Has (stands z) m) (sym k.is_it) (has_from (stands g) m im))

  pub edge_is : (e : Bound) → Contains net.edges e → EdgeOf d (leaders c d) e
  edge_is e ie =
      let je : Contains (edges_of d (leaders c d)) e = subst (λ (z : Net). Contains z.edges e) is.is ie in
      edge_of d (leaders c d) e (has_from (edges_of d (leaders c d)) e je)

  -- two points of one group
  pub weight_inside : (g : Group) (m l : Member) → Contains net.groups g → Contains (stands g) m → Contains (stands g) l → Tight (spread net) m.point.0 l.point.0 (l.offset -ℤ m.offset)
  weight_inside g m l ig im il =
      let k = group_is g ig in
      let sm = stands_is g k m im in
      let sl = stands_is g k l il in
      let sum = rigid_to_all c d table m.point.0 k.at l.point.0 sm.below k.below sl.below (rigid_back c d table k.at m.point.0 sm.rigid) in
      let w : d m.point.0 l.point.0 ≡ l.offset -ℤ m.offset = omega (arith, ints, sum, sm.rigid.sum, sm.offset, sl.offset) in
      subst (Tight (spread net) m.point.0 l.point.0) w (is.tight.tight m.point.0 l.point.0 sm.below sl.below)

  -- two points of groups with an edge
  pub weight_along : (e : Bound) (g h : Group) (m l : Member) → Contains net.edges e → Contains net.groups g → Contains net.groups h → g.leader.0 ≡ e.from.0 → h.leader.0 ≡ e.to.0 → Contains (stands g) m → Contains (stands h) l
      → Tight (spread net) m.point.0 l.point.0 ((e.most +ℤ l.offset) -ℤ m.offset)
  weight_along e g h m l ie ig ih from to im il =
      let r = edge_is e ie in
      let k = group_is g ig in
      let j = group_is h ih in
      let sm = stands_is g k m im in
      let sl = stands_is h j l il in
      let one = rigid_to_all c d table m.point.0 k.at l.point.0 sm.below k.below sl.below (rigid_back c d table k.at m.point.0 sm.rigid) in
      let two = rigid_from_all c d table j.at l.point.0 k.at j.below sl.below k.below sl.rigid in
      let three : d k.at j.at ≡ e.most = ap (λ z. d z j.at) (k.leader ∙ from) ∙ ap (d e.from.0) (j.leader ∙ to) ∙ sym r.weight in
      let w : d m.point.0 l.point.0 ≡ (e.most +ℤ l.offset) -ℤ m.offset = omega (arith, ints, one, two, three, sm.rigid.sum, sm.offset, sl.offset) in
      subst (Tight (spread net) m.point.0 l.point.0) w (is.tight.tight m.point.0 l.point.0 sm.below sl.below)

  -- points have one time in every schedule where their groups and offsets are the same
  pub ties : (g h : Group) (m l : Member) → Contains net.groups g → Contains net.groups h → Contains (stands g) m → Contains (stands h) l
      → IsOneTime (spread net) m.point.0 l.point.0 ↔ ((g.leader.0 ≡ h.leader.0) × (m.offset ≡ l.offset))
  ties g h m l ig ih im il =
      let k = group_is g ig in
      let j = group_is h ih in
      let sm = stands_is g k m im in
      let sl = stands_is h j l il in
      let forth = is.tight.tight m.point.0 l.point.0 sm.below sl.below in
      let back = is.tight.tight l.point.0 m.point.0 sl.below sm.below in (
        λ one.
            let up = forth.least (pos 0) (record { holds = λ s f. omega (arith, ints, one.each s f) }) in
            let down = back.least (pos 0) (record { holds = λ s f. omega (arith, ints, one.each s f) }) in
            let tri = table.triangle m.point.0 l.point.0 m.point.0 sm.below sl.below sm.below in
            let self = table.self m.point.0 sm.below in
            let flat : d m.point.0 l.point.0 ≡ pos 0 = omega (arith, ints, up, down, tri, self) in
            let r : Rigid d m.point.0 l.point.0 = record { sum = omega (arith, ints, up, down, tri, self) } in
            let same : k.at ≡ j.at = one_leader c d table k.at j.at k.has j.has
            (rigid_join c d table k.at l.point.0 j.at k.below sl.below j.below (rigid_join c d table k.at m.point.0 l.point.0 k.below sm.below sl.below sm.rigid r) (rigid_back c d table j.at l.point.0 sl.rigid)) in (
              sym k.leader ∙ same ∙ j.leader,
              omega (arith, ints, sm.offset, sl.offset, ap (λ z. d z l.point.0) same, flat, rigid_to_all c d table k.at m.point.0 l.point.0 k.below sm.below sl.below sm.rigid),
            ),
        λ both. record {
          each = λ s f.
              let same : k.at ≡ j.at = k.leader ∙ both.0 ∙ sym j.leader in
              let a = (is.tight.tight k.at m.point.0 k.below sm.below).implied.holds s f in
              let b = (is.tight.tight m.point.0 k.at sm.below k.below).implied.holds s f in
              let e = (is.tight.tight j.at l.point.0 j.below sl.below).implied.holds s f in
              let i = (is.tight.tight l.point.0 j.at sl.below j.below).implied.holds s f in
              omega (arith, ints, a, b, e, i, ap s same, sm.rigid.sum, sl.rigid.sum, sm.offset, sl.offset, both.1);
        },
      )

  -- either a tick is allowed, or a point that is not executed is forced
  module _ (at : Times) (n : ℤ) (now : IsReached c net at n) where
    pub set_forced : (g : Group) (m : Member) (t : ℤ) → Contains net.groups g → Contains (stands g) m → group_time at g ≡ Some t → IsForced c (spread net) at n m.point.0 ↔ (t +ℤ m.offset ≡ n)
    set_forced g m t ig im e = (λ h. sym (set c net at n is now g m t ig im e now.some now.fits) ∙ h.each now.some now.fits, λ h. record { each = λ s f. set c net at n is now g m t ig im e s f ∙ h })

    edges_free : (time : Times) (es : List Bound) → ((e : Bound) (t : ℤ) → Has es e → time e.from.0 ≡ Some t → time e.to.0 ≡ None → (n +ℤ pos 1) ≤ℤ (t +ℤ e.most)) ⊎ ((e : Bound) × (t : ℤ) × Has es e × (time e.from.0 ≡ Some t) × (time e.to.0 ≡ None) × ((t +ℤ e.most) ≤ℤ n))
    edges_free time [] = inl (λ e t i f g. absurd i)
    edges_free time (k ∷ es) = elim (edges_free time es) [
      | inr r ↦ inr (r.0, r.1, inr r.2, r.3, r.4, r.5)
      | inl all ↦ elim (cases_Option (time k.from.0)) [
        | inl none ↦ inl (λ e t i f g. elim i [
          | inl same ↦ absurd (let h : time e.from.0 ≡ None = subst (λ (z : Bound). time z.from.0 ≡ None) same none in cc)
          | inr j ↦ all e t j f g
        ])
        | inr some ↦ elim (cases_Option (time k.to.0)) [
          | inr other ↦ inl (λ e t i f g. elim i [
            | inl same ↦ absurd (let h : time e.to.0 ≡ Some other.0 = subst (λ (z : Bound). time z.to.0 ≡ Some other.0) same other.1 in cc)
            | inr j ↦ all e t j f g
          ])
          | inl unset ↦ elim (cases_sign (n -ℤ (some.0 +ℤ k.most))) [
            | inl low ↦ inr (k, some.0, inl refl, some.1, unset, omega (arith, ints, low))
            | inr high ↦ inl (λ e t i f g. elim i [
              | inl same ↦
                  let h : time e.from.0 ≡ Some some.0 = subst (λ (z : Bound). time z.from.0 ≡ Some some.0) same some.1 in
                  let w : t ≡ some.0 = cc in
                  omega (arith, ints, high, w, ap (λ (z : Bound). z.most) same)
              | inr j ↦ all e t j f g
            ])
          ]
        ]
      ]
    ]

    points_free : (t : ℤ) (ms : List Member) → ((m : Member) → Has ms m → at m.point.0 ≡ None → (n +ℤ pos 1) ≤ℤ (t +ℤ m.offset)) ⊎ ((m : Member) × Has ms m × (at m.point.0 ≡ None) × ((t +ℤ m.offset) ≤ℤ n))
    points_free t [] = inl (λ m i e. absurd i)
    points_free t (k ∷ ms) = elim (points_free t ms) [
      | inr r ↦ inr (r.0, inr r.1, r.2, r.3)
      | inl all ↦ elim (cases_Option (at k.point.0)) [
        | inr some ↦ inl (λ m i e. elim i [
          | inl same ↦ absurd (let h : at m.point.0 ≡ Some some.0 = subst (λ (z : Member). at z.point.0 ≡ Some some.0) same some.1 in cc)
          | inr j ↦ all m j e
        ])
        | inl none ↦ elim (cases_sign (n -ℤ (t +ℤ k.offset))) [
          | inl low ↦ inr (k, inl refl, none, omega (arith, ints, low))
          | inr high ↦ inl (λ m i e. elim i [
            | inl same ↦ omega (arith, ints, high, ap (λ (z : Member). z.offset) same)
            | inr j ↦ all m j e
          ])
        ]
      ]
    ]

    groups_free : (gs : List Group) → ((g : Group) (t : ℤ) (m : Member) → Has gs g → group_time at g ≡ Some t → Has (stands g) m → at m.point.0 ≡ None → (n +ℤ pos 1) ≤ℤ (t +ℤ m.offset))
        ⊎ ((g : Group) × (t : ℤ) × (m : Member) × Has gs g × (group_time at g ≡ Some t) × Has (stands g) m × (at m.point.0 ≡ None) × ((t +ℤ m.offset) ≤ℤ n))
    groups_free [] = inl (λ g t m i e j f. absurd i)
    groups_free (k ∷ gs) = elim (groups_free gs) [
      | inr r ↦ inr (r.0, r.1, r.2, inr r.3, r.4, r.5, r.6, r.7)
      | inl all ↦ elim (cases_Option (group_time at k)) [
        | inl none ↦ inl (λ g t m i e j f. elim i [
          | inl same ↦ absurd (let h : group_time at g ≡ None = subst (λ z. group_time at z ≡ None) same none in cc)
          | inr l ↦ all g t m l e j f
        ])
        | inr some ↦ elim (points_free some.0 (stands k)) [
          | inr r ↦ inr (k, some.0, r.0, inl refl, some.1, r.1, r.2, r.3)
          | inl each ↦ inl (λ g t m i e j f. elim i [
            | inl same ↦
                let h : group_time at g ≡ Some some.0 = subst (λ z. group_time at z ≡ Some some.0) same some.1 in
                let w : some.0 ≡ t = cc in
                omega (arith, ints, w, each m (subst (λ z. Has (stands z) m) (sym same) j) f)
            | inr l ↦ all g t m l e j f
          ])
        ]
      ]
    ]

    -- the group of a leader, with what it stands for
    pub leader_group : (a : ℕ) → Has (leaders c d) a → Contains net.groups (group_of c d a) × (leader_times net.groups at a ≡ group_time at (group_of c d a))
    leader_group a ia = (
      subst (λ (z : Net). Contains z.groups (group_of c d a)) (sym is.is) (contains_from (map (group_of c d) (leaders c d)) (group_of c d a) (map_has (group_of c d) (leaders c d) a ia)),
      subst (λ (z : Net). leader_times z.groups at a ≡ group_time at (group_of c d a)) (sym is.is) (leader_time_is c d at (leaders c d) a ia),
    )

    pub progress : MayTick c (spread net) at n ⊎ ((x : ℕ) × (x < c) × (at x ≡ None) × IsForced c (spread net) at n x)
    progress = elim (edges_free (leader_times net.groups at) net.edges) [
      | inr r ↦
          let e : Bound = r.0 in
          let edge = edge_is e (contains_from net.edges e r.2) in
          let g = leader_group e.from.0 edge.from_in in
          let h = leader_group e.to.0 edge.to_in in
          let it = (has_leader c d table e.to.0 edge.to_in).0 in
          let jf = (has_leader c d table e.from.0 edge.from_in).0 in
          let none : group_time at (group_of c d e.to.0) ≡ None = sym h.1 ∙ r.4 in
          let self : Member = record { point = record { 0 = e.to.0 }; offset = pos 0 } in
          let first : Member = record { point = record { 0 = e.from.0 }; offset = pos 0 } in
          let unset : at e.to.0 ≡ None = time_by_none at (stands (group_of c d e.to.0)) none self (inl refl) in
          let stood : now.some e.from.0 ≡ r.1 +ℤ pos 0 = set c net at n is now (group_of c d e.from.0) first r.1 g.0 (contains_from (stands (group_of c d e.from.0)) first (inl refl)) (sym g.1 ∙ r.3) now.some now.fits in
          let step = (is.tight.tight e.from.0 e.to.0 jf it).implied.holds now.some now.fits.meets in
          let same : r.1 +ℤ e.most ≡ n = omega (arith, ints, r.5, stood, step, edge.weight, now.fits.future e.to.0 it unset) in
          inr (e.to.0, it, unset, (forced c net at n is now (group_of c d e.to.0) h.0 none).1 (at_set e r.1 (contains_from net.edges e r.2) r.3 r.4 same))
      | inl edges ↦ elim (groups_free net.groups) [
        | inr r ↦
            let g : Group = r.0 in
            let m : Member = r.2 in
            let ig = contains_from net.groups g r.3 in
            let im = contains_from (stands g) m r.5 in
            let ix = (stands_is g (group_is g ig) m im).below in
            let same : r.1 +ℤ m.offset ≡ n = omega (arith, ints, r.7, set c net at n is now g m r.1 ig im r.4 now.some now.fits, now.fits.future m.point.0 ix r.6) in
            inr (m.point.0, ix, r.6, (set_forced g m r.1 ig im r.4).1 same)
        | inl points ↦ inl ((tick c net at n is now).1 (record {
          edges = λ e t i f g. edges e t (has_from net.edges e i) f g;
          points = λ g t m i e j f. points g t m (has_from net.groups g i) e (has_from (stands g) m j) f;
        }))
      ]
    ]

    -- a forced point may be executed, and forbids the tick
    pub forced_may : (x : ℕ) → IsForced c (spread net) at n x → MayBeNow c (spread net) at n x
    forced_may x h = record { s = now.some; fits = now.fits; here = h.each now.some now.fits }

    pub forced_bars : (x : ℕ) → x < c → at x ≡ None → IsForced c (spread net) at n x → MayTick c (spread net) at n → ⊥
    forced_bars x ix none h may = omega (arith, ints, h.each may.s may.fits, may.later x ix none)
