-- The leaders of a reduced network by number, its offsets and weights within LAST, and the time of a set group.
use Rattle.std.proofs.Common.{◌≡◌, ◌≢◌, ℕ, zero, suc, ◌+◌, ◌<◌, ◌≤◌, Bool, List, [], ◌∷◌, length, refl, sym, ap, ◌∙◌, subst, arith, pos, inl, inr, get_or, cond, map, Some}
use Rattle.std.proofs.lemmas.Int.{ints}
use Rattle.std.proofs.lemmas.Bool.{cases_Bool, cases_lt}
use Rattle.std.specs.Prelude.{ℤ, ◌≤ℤ◌, neg_ℤ, Contains, filter, ⊤}
use Rattle.hs_base.specs.declared.limits.TheConstants.{LAST}
use Rattle.hs_base.specs.declared.net.Bound.{Bound}
use Rattle.hs_base.specs.declared.net.Member.{Member}
use Rattle.hs_base.specs.declared.net.Group.{Group}
use Rattle.hs_base.specs.declared.net.Net.{Net}
use Rattle.hs_base.specs.Schedule.{numbers_from}
use Rattle.hs_base.specs.Network.{spread}
use Rattle.hs_base.specs.Reduced.{Table, IsReducedOf, is_leader, leaders, group_of}
use Rattle.hs_base.specs.Fits.{Times}
use Rattle.hs_base.specs.Dispatch.{stands, group_time, IsReached}
use Rattle.net_laws.proofs.TimeLemmas.{time_by_some}
use Rattle.net_laws.proofs.ListLemmas.{contains_from}
use Rattle.net_laws.proofs.GroupLemmas.{has_leader}
use Rattle.net_laws.proofs.ExactLemmas.{table_of}
use Rattle.net_laws.proofs.DispatchLemmas.{set}
use Rattle.net_laws.proofs.StepLemmas.{group_is, stands_is, edge_is, ties}

-- numbers that rise, each at least `from`
abbrev Rises : ℕ → List ℕ → Type 0
Rises from [] = ⊤
Rises from (x ∷ xs) = (from ≤ x) × Rises (x + 1) xs

rises_later : (from later : ℕ) (xs : List ℕ) → from ≤ later → Rises later xs → Rises from xs
rises_later from later [] h r = tt
rises_later from later (x ∷ xs) h r = (omega (arith, h, r.0), r.1)

rises_filter : (p : ℕ → Bool) (from n : ℕ) → Rises from (filter p (numbers_from from n))
rises_filter p from zero = tt
rises_filter p from (suc n) = elim (cases_Bool (p from)) [
  | inr no_ ↦ subst (λ b. Rises from (cond b (from ∷ filter p (numbers_from (from + 1) n)) (filter p (numbers_from (from + 1) n)))) (sym no_) (rises_later from (from + 1) (filter p (numbers_from (from + 1) n)) (omega arith) (rises_filter p (from + 1) n))
  | inl yes_ ↦ subst (λ b. Rises from (cond b (from ∷ filter p (numbers_from (from + 1) n)) (filter p (numbers_from (from + 1) n)))) (sym yes_) (omega arith, rises_filter p (from + 1) n)
]

rises_at : (from : ℕ) (xs : List ℕ) (i : ℕ) → Rises from xs → i < length xs → from + i ≤ get_or xs i 0
rises_at from [] i r h = absurd (omega (arith, h))
rises_at from (x ∷ xs) zero r h = omega (arith, r.0)
rises_at from (x ∷ xs) (suc i) r h = omega (arith, r.0, rises_at (x + 1) xs i r.1 (omega (arith, h)))

rises_apart : (from : ℕ) (xs : List ℕ) (i j : ℕ) → Rises from xs → i < j → j < length xs → get_or xs i 0 < get_or xs j 0
rises_apart from [] i j r h k = absurd (omega (arith, k))
rises_apart from (x ∷ xs) i zero r h k = absurd (omega (arith, h))
rises_apart from (x ∷ xs) zero (suc j) r h k = omega (arith, rises_at (x + 1) xs j r.1 (omega (arith, k)))
rises_apart from (x ∷ xs) (suc i) (suc j) r h k = rises_apart (x + 1) xs i j r.1 (omega (arith, h)) (omega (arith, k))

map_leaders : (c : ℕ) (d : Table) (ls : List ℕ) → map (λ (g : Group). g.leader.0) (map (group_of c d) ls) ≡ ls
map_leaders c d [] = refl
map_leaders c d (x ∷ ls) = ap (λ z. x ∷ z) (map_leaders c d ls)

module _ (c : ℕ) (net : Net) (is : IsReducedOf c (spread net) net) where
  numbers_are : map (λ (g : Group). g.leader.0) net.groups ≡ leaders c is.table
  numbers_are = ap (λ (z : Net). map (λ (g : Group). g.leader.0) z.groups) is.is ∙ map_leaders c is.table (leaders c is.table)

  numbers_rise : Rises 0 (map (λ (g : Group). g.leader.0) net.groups)
  numbers_rise = subst (Rises 0) (sym numbers_are) (rises_filter (is_leader c is.table) 0 c)

  -- a group's number is at most its leader's
  pub number_at_most : (i : ℕ) → i < length (map (λ (g : Group). g.leader.0) net.groups) → i ≤ get_or (map (λ (g : Group). g.leader.0) net.groups) i 0
  number_at_most i h = omega (arith, rises_at 0 (map (λ (g : Group). g.leader.0) net.groups) i numbers_rise h)

  -- two groups have different leaders
  pub leaders_differ : (i j : ℕ) → i < length (map (λ (g : Group). g.leader.0) net.groups) → j < length (map (λ (g : Group). g.leader.0) net.groups)
      → get_or (map (λ (g : Group). g.leader.0) net.groups) i 0 ≡ get_or (map (λ (g : Group). g.leader.0) net.groups) j 0 → i ≡ j
  leaders_differ i j ii jj same = elim (cases_lt i j) [
    | inl less ↦ absurd (omega (arith, same, rises_apart 0 (map (λ (g : Group). g.leader.0) net.groups) i j numbers_rise less jj))
    | inr more ↦ elim (cases_lt j i) [
      | inl less ↦ absurd (omega (arith, same, rises_apart 0 (map (λ (g : Group). g.leader.0) net.groups) j i numbers_rise less ii))
      | inr even ↦ omega (arith, more, even)
    ]
  ]

  -- a member of a group is a point, and at most LAST after the leader
  pub record OffsetWithin (m : Member) : Type 0 where
    pub below : m.point.0 < c
    pub low : pos 0 ≤ℤ m.offset
    pub high : m.offset ≤ℤ LAST

  pub offset_within : (g : Group) (m : Member) → Contains net.groups g → Contains (stands g) m → OffsetWithin m
  offset_within g m ig im =
      let k = group_is c net is g ig in
      let s = stands_is c net is g k m im in
      let lead = (has_leader c is.table (table_of c (spread net) is.table is.tight) k.at k.has).1 m.point.0 s.below s.rigid in
      let t = is.tight in
      let f = t.meets in
      record {
        below = s.below;
        low = omega (arith, ints, s.offset, lead.early);
        high = omega (
          arith,
          ints,
          s.offset,
          s.rigid.sum,
          (t.tight k.at m.point.0 k.below s.below).implied.holds t.some f,
          (t.tight m.point.0 k.at s.below k.below).implied.holds t.some f,
          (t.before_last m.point.0 s.below).holds t.some f,
          (t.after_origin k.at k.below).holds t.some f,
        );
      }

  -- an edge joins two leaders, and its weight is within LAST
  pub record EdgeWithin (e : Bound) : Type 0 where
    pub from : Contains (map (λ (g : Group). g.leader.0) net.groups) e.from.0
    pub to : Contains (map (λ (g : Group). g.leader.0) net.groups) e.to.0
    pub apart : e.from.0 ≢ e.to.0
    pub low : neg_ℤ LAST ≤ℤ e.most
    pub high : e.most ≤ℤ LAST

  pub edge_within : (e : Bound) → Contains net.edges e → EdgeWithin e
  edge_within e ie =
      let k = edge_is c net is e ie in
      let web = table_of c (spread net) is.table is.tight in
      let jf = (has_leader c is.table web e.from.0 k.from_in).0 in
      let jt = (has_leader c is.table web e.to.0 k.to_in).0 in
      let t = is.tight in
      let f = t.meets in
      let w = t.tight e.from.0 e.to.0 jf jt in
      record {
        from = subst (λ z. Contains z e.from.0) (sym numbers_are) (contains_from (leaders c is.table) e.from.0 k.from_in);
        to = subst (λ z. Contains z e.to.0) (sym numbers_are) (contains_from (leaders c is.table) e.to.0 k.to_in);
        apart = k.kept.apart;
        low = omega (arith, ints, k.weight, w.implied.holds t.some f, (t.before_last e.from.0 jf).holds t.some f, (t.after_origin e.to.0 jt).holds t.some f);
        high = omega (arith, ints, k.weight, w.least LAST (record { holds = λ s g. omega (arith, ints, (t.before_last e.to.0 jt).holds s g, (t.after_origin e.from.0 jf).holds s g) }));
      }

  -- a point stands in one group, at one offset
  pub stands_once : (g h : Group) (m l : Member) → Contains net.groups g → Contains net.groups h → Contains (stands g) m → Contains (stands h) l → m.point.0 ≡ l.point.0 → (g.leader.0 ≡ h.leader.0) × (m.offset ≡ l.offset)
  stands_once g h m l ig ih im il same = (ties c net is g h m l ig ih im il).0 (record { each = λ s f. ap s same })

  -- the time of a set group is between 0 and now
  pub record TimeWithin (n t : ℤ) : Type 0 where
    pub low : pos 0 ≤ℤ t
    pub high : t ≤ℤ LAST
    pub late : t ≤ℤ n

  pub group_time_within : (at : Times) (n : ℤ) → IsReached c net at n → (g : Group) (t : ℤ) → Contains net.groups g → group_time at g ≡ Some t → TimeWithin n t
  group_time_within at n now g t ig set_at =
      let k = group_is c net is g ig in
      let self : Member = record { point = g.leader; offset = pos 0 } in
      let at_leader = set c net at n is now g self t ig (contains_from (stands g) self (inl refl)) set_at now.some now.fits in
      let il : g.leader.0 < c = omega (arith, k.below, k.leader) in
      let f = now.fits.meets in
      record {
        low = omega (arith, ints, at_leader, f.origin, (is.tight.after_origin g.leader.0 il).holds now.some f);
        high = omega (arith, ints, at_leader, f.origin, (is.tight.before_last g.leader.0 il).holds now.some f);
        late =
            let r = time_by_some at (stands g) t set_at in
            let o = offset_within g r.0 ig (contains_from (stands g) r.0 r.2) in
            omega (arith, ints, r.4, o.low, now.late r.0.point.0 r.1 r.3);
      }
