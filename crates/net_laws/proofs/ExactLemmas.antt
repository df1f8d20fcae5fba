-- The reduced network admits exactly the schedules of the bounds.
use Rattle.std.proofs.Common.{◌≡◌, ◌≢◌, ℕ, ◌<◌, List, [], ◌∷◌, refl, sym, ap, subst, arith, pos, inl, inr, ◌↔◌}
use Rattle.std.proofs.lemmas.Int.{ints}
use Rattle.std.proofs.lemmas.Bool.{cases_eq, and_parts, and_from, not-true, not_from_false, eqb-false, ne_eqb}
use Rattle.std.specs.Prelude.{◌+ℤ◌, ◌-ℤ◌, ◌≤ℤ◌, neg_ℤ, not, ◌&&◌, nat_eq, filter, map}
use Rattle.std.specs.List.{AllByRecursion}
use Rattle.hs_base.specs.declared.net.Bound.{Bound}
use Rattle.hs_base.specs.declared.net.Member.{Member}
use Rattle.hs_base.specs.declared.net.Net.{Net}
use Rattle.hs_base.specs.Schedule.{Schedule, Meets, Holds, Tight, IsBelow, bound, numbers_from}
use Rattle.hs_base.specs.Network.{spread, Admits, rigid_bounds}
use Rattle.hs_base.specs.Reduced.{Table, IsTable, IsTableOf, IsReducedOf, are_rigid, leaders, group_of, edges_from, edges_of, is_kept, reduced}
use Rattle.net_laws.proofs.BetweenLemmas.{Has, IsKept, kept_from, kept_to}
use Rattle.net_laws.proofs.KeptLemmas.{all_from_kept}
use Rattle.net_laws.proofs.ListLemmas.{has_filter, filter_has, has_map, map_has, has_append, append_left, append_right, has_flat_map, flat_map_has, has_numbers, numbers_has, each_of, each_by}
use Rattle.net_laws.proofs.GroupLemmas.{Rigid, rigid_from, rigid_to, rigid_to_all, rigid_from_all, has_leader, leaders_web, leader_of}

-- s keeps each distance
pub record Keeps (c : ℕ) (d : Table) (s : Schedule) : Type 0 where
  pub step : (p q : ℕ) → p < c → q < c → (s q -ℤ s p) ≤ℤ d p q

-- the edges are the kept ones, with their weights
pub record EdgeOf (d : Table) (ls : List ℕ) (e : Bound) : Type 0 where
  pub from_in : Has ls e.from.0
  pub to_in : Has ls e.to.0
  pub kept : IsKept d ls e.from.0 e.to.0
  pub weight : e.most ≡ d e.from.0 e.to.0

pub edge_of : (d : Table) (ls : List ℕ) (e : Bound) → Has (edges_of d ls) e → EdgeOf d ls e
edge_of d ls e h =
    let one = has_flat_map (edges_from d ls) ls e h in
    let two = has_map (λ x. bound one.0 x (d one.0 x)) (filter (is_kept d ls one.0) ls) e one.2 in
    let three = has_filter (is_kept d ls one.0) ls two.0 two.1 in
    subst (EdgeOf d ls) two.2 (record { from_in = one.1; to_in = three.0; kept = kept_from d ls one.0 two.0 three.1; weight = refl })

pub edge_has : (d : Table) (ls : List ℕ) (a e : ℕ) → Has ls a → Has ls e → IsKept d ls a e → Has (edges_of d ls) (bound a e (d a e))
edge_has d ls a e ia ie k = flat_map_has (edges_from d ls) ls a (bound a e (d a e)) ia
    (map_has (λ x. bound a x (d a x)) (filter (is_kept d ls a) ls) e (filter_has (is_kept d ls a) ls e ie (kept_to d ls a e k)))

-- the members of the group of a
pub record MemberOf (c : ℕ) (d : Table) (a : ℕ) (m : Member) : Type 0 where
  pub below : m.point.0 < c
  pub rigid : Rigid d a m.point.0
  pub other : a ≢ m.point.0
  pub offset : m.offset ≡ d a m.point.0

pub member_of : (c : ℕ) (d : Table) (a : ℕ) (m : Member) → Has (group_of c d a).members m → MemberOf c d a m
member_of c d a m h =
    let one = has_map (λ q. record { point = record { 0 = q }; offset = d a q }) (filter (λ q. are_rigid d a q && not (nat_eq a q)) (numbers_from 0 c)) m h in
    let two = has_filter (λ q. are_rigid d a q && not (nat_eq a q)) (numbers_from 0 c) one.0 one.1 in
    let three = and_parts (are_rigid d a one.0) (not (nat_eq a one.0)) two.1 in
    subst (MemberOf c d a) one.2 (record {
      below = omega (arith, (has_numbers 0 c one.0 two.0).1);
      rigid = rigid_from d a one.0 three.0;
      other = eqb-false a one.0 (not-true _ three.1);
      offset = refl;
    })

pub member_has : (c : ℕ) (d : Table) (a q : ℕ) → q < c → Rigid d a q → a ≢ q → Has (group_of c d a).members (record { point = record { 0 = q }; offset = d a q })
member_has c d a q iq r other = map_has (λ q. record { point = record { 0 = q }; offset = d a q }) (filter (λ q. are_rigid d a q && not (nat_eq a q)) (numbers_from 0 c)) q
    (filter_has (λ q. are_rigid d a q && not (nat_eq a q)) (numbers_from 0 c) q (numbers_has 0 c q (omega arith) (omega (arith, iq)))
    (and_from _ _ (rigid_to d a q r) (not_from_false _ (ne_eqb a q other))))

module _ (c : ℕ) (d : Table) (is : IsTable c d) where
  rigid_holds : (s : Schedule) → Admits (reduced c d) s → (a q : ℕ) → Has (leaders c d) a → q < c → Rigid d a q → s q ≡ s a +ℤ d a q
  rigid_holds s h a q ia iq r = elim (cases_eq a q) [
    | inl same ↦ omega (arith, ints, ap s same, ap (d a) same, is.self a (has_leader c d is a ia).0)
    | inr other ↦
        let m : Member = record { point = record { 0 = q }; offset = d a q } in
        let both : List Bound = bound a q (d a q) ∷ bound q a (neg_ℤ (d a q)) ∷ [] in
        let there : (b : Bound) → Has both b → Holds s b = λ b i. each_of (Holds s) (spread (reduced c d)) b h.each
        (append_right (edges_of d (leaders c d)) _ b
        (flat_map_has rigid_bounds (map (group_of c d) (leaders c d)) (group_of c d a) b (map_has (group_of c d) (leaders c d) a ia)
        (flat_map_has (λ (m : Member). bound a m.point.0 m.offset ∷ bound m.point.0 a (neg_ℤ m.offset) ∷ []) (group_of c d a).members m b (member_has c d a q iq r other) i))) in
        let forth : Holds s (bound a q (d a q)) = there (bound a q (d a q)) (inl refl) in
        let back : Holds s (bound q a (neg_ℤ (d a q))) = there (bound q a (neg_ℤ (d a q))) (inr (inl refl)) in
        omega (arith, ints, forth, back)
  ]

  pub admits_keeps : (s : Schedule) → Admits (reduced c d) s → Keeps c d s
  admits_keeps s h = record {
    step = λ p q ip iq.
        let lp = leader_of c d is p ip in
        let lq = leader_of c d is q iq in
        let edges = all_from_kept d (leaders c d) (leaders_web c d is) s
        (λ a e ia ie k. each_of (Holds s) (spread (reduced c d)) (bound a e (d a e)) h.each (append_left (edges_of d (leaders c d)) _ (bound a e (d a e)) (edge_has d (leaders c d) a e ia ie k))) in
        omega (
          arith,
          ints,
          edges lp.at lq.at lp.has lq.has,
          rigid_holds s h lp.at p lp.has ip lp.rigid,
          rigid_holds s h lq.at q lq.has iq lq.rigid,
          rigid_to_all c d is lp.at p q lp.below ip iq lp.rigid,
          rigid_from_all c d is lq.at q lp.at lq.below iq lp.below lq.rigid,
        );
  }

  pub keeps_admits : (s : Schedule) → s 0 ≡ pos 0 → Keeps c d s → Admits (reduced c d) s
  keeps_admits s start h = record {
    origin = start;
    each = each_by (Holds s) (spread (reduced c d)) (λ b i. elim (has_append (edges_of d (leaders c d)) _ b i) [
      | inl e ↦
          let r = edge_of d (leaders c d) b e in
          omega (arith, ints, r.weight, h.step b.from.0 b.to.0 (has_leader c d is b.from.0 r.from_in).0 (has_leader c d is b.to.0 r.to_in).0)
      | inr e ↦
          let one = has_flat_map rigid_bounds (map (group_of c d) (leaders c d)) b e in
          let two = has_map (group_of c d) (leaders c d) one.0 one.1 in
          let a = two.0 in
          let ia = (has_leader c d is a two.1).0 in
          let three : Has (rigid_bounds (group_of c d a)) b = subst (λ g. Has (rigid_bounds g) b) (sym two.2) one.2 in
          let four = has_flat_map (λ (m : Member). bound a m.point.0 m.offset ∷ bound m.point.0 a (neg_ℤ m.offset) ∷ []) (group_of c d a).members b three in
          let m : Member = four.0 in
          let r = member_of c d a m four.1 in
          let forth = h.step a m.point.0 ia r.below in
          let back = h.step m.point.0 a r.below ia in
          let f : Holds s (bound a m.point.0 m.offset) = omega (arith, ints, r.offset, forth) in
          let g : Holds s (bound m.point.0 a (neg_ℤ m.offset)) = omega (arith, ints, r.offset, back, r.rigid.sum) in
          elim four.2 [
            | inl same ↦ subst (Holds s) same f
            | inr rest ↦ elim rest [ inl same ↦ subst (Holds s) same g | inr none ↦ absurd none ]
          ]
    ]);
  }

-- tight weights are a table of distances
pub tight_table : (c : ℕ) (k : List Bound) (d : Table) (some : Schedule) → Meets k some → ((p q : ℕ) → p < c → q < c → Tight k p q (d p q)) → IsTable c d
tight_table c k d some fact tight = record {
  self = λ p i.
      let t = tight p p i i in
      omega (arith, ints, t.least (pos 0) (record { holds = λ s h. omega (arith, ints) }), t.implied.holds some fact);
  triangle = λ p q r i j l. (tight p r i l).least (d p q +ℤ d q r)
      (record { holds = λ s h. omega (arith, ints, (tight p q i j).implied.holds s h, (tight q r j l).implied.holds s h) });
}

pub meets_keeps : (c : ℕ) (k : List Bound) (d : Table) → ((p q : ℕ) → p < c → q < c → Tight k p q (d p q)) → (s : Schedule) → Meets k s → Keeps c d s
meets_keeps c k d tight s h = record { step = λ p q i j. (tight p q i j).implied.holds s h }

pub keeps_meets : (c : ℕ) (k : List Bound) (d : Table) → AllByRecursion (IsBelow c) k → ((p q : ℕ) → p < c → q < c → Tight k p q (d p q)) → (s : Schedule) → s 0 ≡ pos 0 → Keeps c d s → Meets k s
keeps_meets c k d below tight s start h = record {
  origin = start;
  each = each_by (Holds s) k (λ b i.
      let in' = each_of (IsBelow c) k b below i in
      let most = (tight b.from.0 b.to.0 in'.0 in'.1).least b.most (record { holds = λ v m. each_of (Holds v) k b m.each i }) in
      omega (arith, ints, most, h.step b.from.0 b.to.0 in'.0 in'.1));
}

pub table_of : (c : ℕ) (k : List Bound) (d : Table) → IsTableOf c k d → IsTable c d
table_of c k d is = tight_table c k d is.some is.meets is.tight

-- the reduced network admits exactly the schedules of the bounds
pub exact : (c : ℕ) (k : List Bound) (n : Net) → IsReducedOf c k n → (s : Schedule) → Admits n s ↔ Meets k s
exact c k n is s =
    let table = table_of c k is.table is.tight in (
      λ h.
          let g : Admits (reduced c is.table) s = subst (λ z. Admits z s) is.is h in
          keeps_meets c k is.table is.tight.below is.tight.tight s g.origin (admits_keeps c is.table table s g),
      λ h. subst (λ z. Admits z s) (sym is.is) (keeps_admits c is.table table s h.origin (meets_keeps c k is.table is.tight.tight s h)),
    )

-- the bounds of a reduced network are between its points
spread_below : (c : ℕ) (d : Table) → IsTable c d → AllByRecursion (IsBelow c) (spread (reduced c d))
spread_below c d is = each_by (IsBelow c) (spread (reduced c d)) (λ b i. elim (has_append (edges_of d (leaders c d)) _ b i) [
  | inl e ↦ let r = edge_of d (leaders c d) b e in ((has_leader c d is b.from.0 r.from_in).0, (has_leader c d is b.to.0 r.to_in).0)
  | inr e ↦
      let one = has_flat_map rigid_bounds (map (group_of c d) (leaders c d)) b e in
      let two = has_map (group_of c d) (leaders c d) one.0 one.1 in
      let a = two.0 in
      let ia = (has_leader c d is a two.1).0 in
      let three : Has (rigid_bounds (group_of c d a)) b = subst (λ g. Has (rigid_bounds g) b) (sym two.2) one.2 in
      let four = has_flat_map (λ (m : Member). bound a m.point.0 m.offset ∷ bound m.point.0 a (neg_ℤ m.offset) ∷ []) (group_of c d a).members b three in
      let m : Member = four.0 in
      let r = member_of c d a m four.1 in
      elim four.2 [
        | inl same ↦ subst (IsBelow c) same (ia, r.below)
        | inr rest ↦ elim rest [ inl same ↦ subst (IsBelow c) same (r.below, ia) | inr none ↦ absurd none ]
      ]
])

-- a reduced network is that of what it spreads to
pub reduced_again : (c : ℕ) (k : List Bound) (n : Net) → IsReducedOf c k n → IsReducedOf c (spread n) n
reduced_again c k n is =
    let t = is.tight in
    let both = exact c k n is in
    record {
      table = is.table;
      tight = record {
        below = subst (λ z. AllByRecursion (IsBelow c) (spread z)) (sym is.is) (spread_below c is.table (table_of c k is.table t));
        some = t.some;
        meets = (both t.some).1 t.meets;
        tight = λ p q ip iq.
            let w = t.tight p q ip iq in
            record {
              implied = record { holds = λ s h. w.implied.holds s ((both s).0 h) };
              least = λ v h. w.least v (record { holds = λ s g. h.holds s ((both s).1 g) });
            };
        after_origin = λ p ip. record { holds = λ s h. (t.after_origin p ip).holds s ((both s).0 h) };
        before_last = λ p ip. record { holds = λ s h. (t.before_last p ip).holds s ((both s).0 h) };
      };
      is = is.is;
    }
