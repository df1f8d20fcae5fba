-- Executed times, and the times that they give leaders.
use Rattle.std.proofs.Common.{◌≡◌, ℕ, ◌<◌, List, [], ◌∷◌, refl, sym, ap, subst, pos, inl, inr, Some, None}
use Rattle.std.proofs.lemmas.Bool.{cases_eq, eq-eqb, ne_eqb}
use Rattle.std.specs.Prelude.{ℤ, ◌-ℤ◌, map}
use Rattle.hs_base.specs.declared.net.Member.{Member}
use Rattle.hs_base.specs.Reduced.{Table, IsTable, group_of}
use Rattle.hs_base.specs.Fits.{Times}
use Rattle.hs_base.specs.Dispatch.{stands, time_by, group_time, leader_times}
use Rattle.net_laws.proofs.BetweenLemmas.{Has}
use Rattle.net_laws.proofs.LeaderLemmas.{cases_Option}
use Rattle.net_laws.proofs.GroupLemmas.{Rigid, rigid_self}
use Rattle.net_laws.proofs.ExactLemmas.{member_of, member_has}

-- the time of a leader comes from an executed point
pub time_by_some : (at : Times) (ms : List Member) (t : ℤ) → time_by at ms ≡ Some t → (m : Member) × (u : ℤ) × Has ms m × (at m.point.0 ≡ Some u) × (t ≡ u -ℤ m.offset)
time_by_some at [] t h = absurd (cc)
time_by_some at (m ∷ ms) t h = elim (cases_Option (at m.point.0)) [
  | inl e ↦ let r = time_by_some at ms t (rw e at h) in (r.0, r.1, inr r.2, r.3, r.4)
  | inr e ↦ (m, e.0, inl refl, e.1, let g : Some (e.0 -ℤ m.offset) ≡ Some t = rw e.1 at h in cc)
]

pub time_by_none : (at : Times) (ms : List Member) → time_by at ms ≡ None → (m : Member) → Has ms m → at m.point.0 ≡ None
time_by_none at [] h m i = absurd i
time_by_none at (x ∷ ms) h m i = elim (cases_Option (at x.point.0)) [
  | inl e ↦ elim i [
    | inl same ↦ subst (λ (z : Member). at z.point.0 ≡ None) same e
    | inr j ↦ time_by_none at ms (rw e at h) m j
  ]
  | inr e ↦ (let g : Some (e.0 -ℤ x.offset) ≡ None = rw e.1 at h in absurd (cc))
]

-- the groups of a list of leaders
pub leader_time_is : (c : ℕ) (d : Table) (at : Times) (ls : List ℕ) (a : ℕ) → Has ls a → leader_times (map (group_of c d) ls) at a ≡ group_time at (group_of c d a)
leader_time_is c d at [] a i = absurd i
leader_time_is c d at (x ∷ ls) a i = elim (cases_eq x a) [
  | inl same ↦ rw (eq-eqb x a same) (ap (λ z. group_time at (group_of c d z)) same)
  | inr other ↦ elim i [
    | inl same ↦ absurd (other same)
    | inr j ↦ rw (ne_eqb x a other) (leader_time_is c d at ls a j)
  ]
]

-- who stands in the group of a
pub record StandsIn (c : ℕ) (d : Table) (a : ℕ) (m : Member) : Type 0 where
  pub below : m.point.0 < c
  pub rigid : Rigid d a m.point.0
  pub offset : m.offset ≡ d a m.point.0

pub stands_in : (c : ℕ) (d : Table) → IsTable c d → (a : ℕ) → a < c → (m : Member) → Has (stands (group_of c d a)) m → StandsIn c d a m
stands_in c d is a ia m (inl same) = subst (StandsIn c d a) same (record { below = ia; rigid = rigid_self c d is a ia; offset = sym (is.self a ia) })
stands_in c d is a ia m (inr j) = let r = member_of c d a m j in record { below = r.below; rigid = r.rigid; offset = r.offset }

pub in_stands : (c : ℕ) (d : Table) (a q : ℕ) → q < c → Rigid d a q → (m : Member) × Has (stands (group_of c d a)) m × (m.point.0 ≡ q)
in_stands c d a q iq r = elim (cases_eq a q) [
  | inl same ↦ (record { point = record { 0 = a }; offset = pos 0 }, inl refl, same)
  | inr other ↦ (record { point = record { 0 = q }; offset = d a q }, inr (member_has c d a q iq r other), refl)
]
