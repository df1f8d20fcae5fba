-- Rigid groups of a table of distances, and their leaders.
use Rattle.std.proofs.Common.{◌≡◌, ℕ, zero, suc, ◌<◌, ◌≤◌, true, false, sym, ap, subst, arith, pos, inl, inr}
use Rattle.std.proofs.lemmas.Int.{ints}
use Rattle.std.proofs.lemmas.Bool.{cases_eq, cases_Bool, and_parts, and_from, or_cases, or_left, or_right, not-true, not_from_false, leb-true, leb-false, le-leb, or_parts, and_cases, both_ways}
use Rattle.std.specs.Prelude.{◌+ℤ◌, ◌-ℤ◌, ◌≤ℤ◌, int_lt, not, ◌&&◌, ◌||◌, nat_le}
use Rattle.hs_base.specs.Schedule.{numbers_from}
use Rattle.hs_base.specs.Reduced.{Table, IsTable, are_rigid, leads_over, is_leader, leaders, int_eq}
use Rattle.net_laws.proofs.BetweenLemmas.{Has, Web, int_eq-true, eq_int_eq, int_lt-true, int_lt-false, lt_int_lt}
use Rattle.net_laws.proofs.KeptLemmas.{cases_sign}
use Rattle.net_laws.proofs.ListLemmas.{has_filter, filter_has, has_numbers, numbers_has, all_passes, passes_all}

pub record Rigid (d : Table) (p q : ℕ) : Type 0 where
  pub sum : d p q +ℤ d q p ≡ pos 0

-- p is earlier, or at the same time with the lesser number
pub record LeadsOver (d : Table) (p q : ℕ) : Type 0 where
  pub early : pos 0 ≤ℤ d p q
  pub least : d p q ≡ pos 0 → p ≤ q

pub rigid_from : (d : Table) (p q : ℕ) → are_rigid d p q ≡ true → Rigid d p q
rigid_from d p q h = record { sum = int_eq-true _ _ h }

pub rigid_to : (d : Table) (p q : ℕ) → Rigid d p q → are_rigid d p q ≡ true
rigid_to d p q h = eq_int_eq _ _ h.sum

pub leads_from : (d : Table) (p q : ℕ) → leads_over d p q ≡ true → LeadsOver d p q
leads_from d p q h = elim (or_cases _ _ h) [
  | inl e ↦ let l = int_lt-true (pos 0) (d p q) e in record { early = omega (arith, ints, l); least = λ z. absurd (omega (arith, ints, l, z)) }
  | inr e ↦
      let r = and_parts (int_eq (d p q) (pos 0)) (nat_le p q) e in
      record { early = omega (arith, ints, int_eq-true (d p q) (pos 0) r.0); least = λ z. leb-true p q r.1 }
]

pub leads_to : (d : Table) (p q : ℕ) → LeadsOver d p q → leads_over d p q ≡ true
leads_to d p q h = elim (cases_sign (pos 0 -ℤ d p q)) [
  | inl e ↦ let same : d p q ≡ pos 0 = omega (arith, ints, e, h.early) in or_right _ _ (and_from _ _ (eq_int_eq _ _ same) (le-leb p q (h.least same)))
  | inr e ↦ or_left _ _ (lt_int_lt (pos 0) (d p q) (omega (arith, ints, e)))
]

module _ (c : ℕ) (d : Table) (is : IsTable c d) where
  -- a point of a group stands for another in each distance
  pub rigid_to_all : (p q y : ℕ) → p < c → q < c → y < c → Rigid d p q → d p y ≡ d p q +ℤ d q y
  rigid_to_all p q y ip iq iy h = omega (arith, ints, h.sum, is.triangle p q y ip iq iy, is.triangle q p y iq ip iy)

  pub rigid_from_all : (p q y : ℕ) → p < c → q < c → y < c → Rigid d p q → d y q ≡ d y p +ℤ d p q
  rigid_from_all p q y ip iq iy h = omega (arith, ints, h.sum, is.triangle y p q iy ip iq, is.triangle y q p iy iq ip)

  pub rigid_self : (p : ℕ) → p < c → Rigid d p p
  rigid_self p ip = record { sum = omega (arith, ints, is.self p ip) }

  pub rigid_back : (p q : ℕ) → Rigid d p q → Rigid d q p
  rigid_back p q h = record { sum = omega (arith, ints, h.sum) }

  pub rigid_join : (p q r : ℕ) → p < c → q < c → r < c → Rigid d p q → Rigid d q r → Rigid d p r
  rigid_join p q r ip iq ir h k = record { sum = omega (arith, ints, h.sum, k.sum, rigid_to_all p q r ip iq ir h, rigid_from_all q p r iq ip ir (rigid_back p q h)) }

  pub has_leader : (a : ℕ) → Has (leaders c d) a → (a < c) × ((q : ℕ) → q < c → Rigid d a q → LeadsOver d a q)
  has_leader a h =
      let r = has_filter (is_leader c d) (numbers_from 0 c) a h in (
        omega (arith, (has_numbers 0 c a r.0).1),
        λ q iq k. elim (or_cases _ _ (all_passes (λ z. not (are_rigid d a z) || leads_over d a z) (numbers_from 0 c) r.1 q (numbers_has 0 c q (omega arith) (omega arith)))) [
          | inl e ↦ absurd (both_ways (are_rigid d a q) (not-true _ e) (rigid_to d a q k))
          | inr e ↦ leads_from d a q e
        ],
      )

  pub leader_has : (a : ℕ) → a < c → ((q : ℕ) → q < c → Rigid d a q → LeadsOver d a q) → Has (leaders c d) a
  leader_has a ia h = filter_has (is_leader c d) (numbers_from 0 c) a (numbers_has 0 c a (omega arith) (omega arith))
      (passes_all (λ z. not (are_rigid d a z) || leads_over d a z) (numbers_from 0 c) (λ q iq. elim (cases_Bool (are_rigid d a q)) [
        | inl e ↦ or_right _ _ (leads_to d a q (h q (omega (arith, (has_numbers 0 c q iq).1)) (rigid_from d a q e)))
        | inr e ↦ or_left _ _ (not_from_false _ e)
      ]))

  -- two leaders of one group are one
  pub one_leader : (a b : ℕ) → Has (leaders c d) a → Has (leaders c d) b → Rigid d a b → a ≡ b
  one_leader a b ia ib h =
      let x = has_leader a ia in
      let y = has_leader b ib in
      let u = x.1 b y.0 h in
      let v = y.1 a x.0 (rigid_back a b h) in
      let forth : d a b ≡ pos 0 = omega (arith, ints, h.sum, u.early, v.early) in
      let back : d b a ≡ pos 0 = omega (arith, ints, h.sum, u.early, v.early) in
      omega (arith, u.least forth, v.least back)

  pub leaders_web : Web d (leaders c d)
  leaders_web = record {
    self = λ p i. is.self p (has_leader p i).0;
    triangle = λ p q r i j k. is.triangle p q r (has_leader p i).0 (has_leader q j).0 (has_leader r k).0;
    strict = λ p q i j apart. elim (cases_sign (pos 0 -ℤ (d p q +ℤ d q p))) [
      | inl e ↦ absurd (apart (one_leader p q i j (record { sum = omega (arith, ints, e, is.self p (has_leader p i).0, is.triangle p q p (has_leader p i).0 (has_leader q j).0 (has_leader p i).0) })))
      | inr e ↦ omega (arith, ints, e)
    ];
  }

  leads_change : (p k q : ℕ) → p < c → k < c → q < c → Rigid d p k → leads_over d p k ≡ false → LeadsOver d p q → LeadsOver d k q
  leads_change p k q ip ik iq r lost h =
      let parts = or_parts (int_lt (pos 0) (d p k)) (int_eq (d p k) (pos 0) && nat_le p k) lost in
      let late = int_lt-false (pos 0) (d p k) parts.0 in
      let sum = rigid_to_all k p q ik ip iq (rigid_back p k r) in
      record {
        early = omega (arith, ints, r.sum, late, sum, h.early);
        least = λ z.
            let flat : d p k ≡ pos 0 = omega (arith, ints, r.sum, late, sum, h.early, z) in
            let level : d p q ≡ pos 0 = omega (arith, ints, r.sum, late, sum, h.early, z) in
            elim (and_cases (int_eq (d p k) (pos 0)) (nat_le p k) parts.1) [
              | inl e ↦ absurd (both_ways (int_eq (d p k) (pos 0)) e (eq_int_eq _ _ flat))
              | inr e ↦ omega (arith, h.least level, leb-false p k e)
            ];
      }

  -- the best of the group of x among the first k points
  record Best (x k : ℕ) : Type 0 where
    at : ℕ
    below : at < c
    rigid : Rigid d x at
    best : (q : ℕ) → q < k → Rigid d x q → LeadsOver d at q

  best_within : (x : ℕ) → x < c → (k : ℕ) → k ≤ c → Best x k
  best_within x ix zero h = record { at = x; below = ix; rigid = rigid_self x ix; best = λ q i r. absurd (omega (arith, i)) }
  best_within x ix (suc k) h =
      let b = best_within x ix k (omega arith) in
      let ik : k < c = omega arith in
      elim (cases_Bool (are_rigid d x k)) [
        | inr e ↦ record {
          at = b.at;
          below = b.below;
          rigid = b.rigid;
          best = λ q i r. elim (cases_eq q k) [
            | inl same ↦ absurd (both_ways (are_rigid d x k) e (rigid_to d x k (subst (λ z. Rigid d x z) same r)))
            | inr other ↦ b.best q (omega (arith, i, other)) r
          ];
        }
        | inl e ↦
            let rk = rigid_from d x k e in
            let bk : Rigid d b.at k = rigid_join b.at x k b.below ix ik (rigid_back x b.at b.rigid) rk in
            elim (cases_Bool (leads_over d b.at k)) [
              | inl l ↦ record {
                at = b.at;
                below = b.below;
                rigid = b.rigid;
                best = λ q i r. elim (cases_eq q k) [
                  | inl same ↦ subst (λ z. LeadsOver d b.at z) (sym same) (leads_from d b.at k l)
                  | inr other ↦ b.best q (omega (arith, i, other)) r
                ];
              }
              | inr l ↦ record {
                at = k;
                below = ik;
                rigid = rk;
                best = λ q i r. elim (cases_eq q k) [
                  | inl same ↦ record { early = omega (arith, ints, ap (d k) same, is.self k ik); least = λ z. omega (arith, same) }
                  | inr other ↦ let iq : q < k = omega (arith, i, other) in leads_change b.at k q b.below ik (omega (arith, iq, ik)) bk l (b.best q iq r)
                ];
              }
            ]
      ]

  -- the leader of a point's group
  pub record LeaderOf (x : ℕ) : Type 0 where
    pub at : ℕ
    pub has : Has (leaders c d) at
    pub below : at < c
    pub rigid : Rigid d at x
    pub early : pos 0 ≤ℤ d at x

  pub leader_of : (x : ℕ) → x < c → LeaderOf x
  leader_of x ix =
      let b = best_within x ix c (omega arith) in
      let back = rigid_back x b.at b.rigid in
      record {
        at = b.at;
        has = leader_has b.at b.below (λ q iq r. b.best q iq (rigid_join x b.at q ix b.below iq b.rigid r));
        below = b.below;
        rigid = back;
        early = (b.best x ix (rigid_self x ix)).early;
      }
