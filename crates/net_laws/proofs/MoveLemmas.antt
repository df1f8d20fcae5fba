-- What the execution of a point does to the times of the groups, and how a tick is answered.
use Rattle.std.proofs.Common.{◌≡◌, ◌≢◌, ℕ, zero, suc, ◌<◌, ◌≤◌, Bool, true, List, [], ◌∷◌, refl, sym, ap, ◌∙◌, subst, arith, pos, inl, inr, ◌⊎◌, Some, None}
use Rattle.std.proofs.lemmas.Int.{ints}
use Rattle.std.proofs.lemmas.Bool.{cases_eq, cases_Bool, both_ways, eq-eqb, ne_eqb}
use Rattle.std.specs.Prelude.{ℤ, ◌-ℤ◌, Contains}
use Rattle.hs_base.specs.declared.net.Member.{Member}
use Rattle.hs_base.specs.declared.net.Group.{Group}
use Rattle.hs_base.specs.declared.net.Net.{Net}
use Rattle.hs_base.specs.Network.{spread}
use Rattle.hs_base.specs.Reduced.{IsReducedOf}
use Rattle.hs_base.specs.Fits.{Times, MayBeNow, MayTick, IsForced, IsOneTime, IsTiedTo, IsDue, LateBound, put}
use Rattle.hs_base.specs.Dispatch.{stands, time_by, group_time, IsReached}
use Rattle.net_laws.proofs.BetweenLemmas.{Has}
use Rattle.net_laws.proofs.KeptLemmas.{cases_sign}
use Rattle.net_laws.proofs.LeaderLemmas.{cases_Option}
use Rattle.net_laws.proofs.ListLemmas.{has_from, contains_from}
use Rattle.net_laws.proofs.GroupLemmas.{Rigid, rigid_join, rigid_back, one_leader}
use Rattle.net_laws.proofs.ExactLemmas.{table_of}
use Rattle.net_laws.proofs.TimeLemmas.{time_by_none}
use Rattle.net_laws.proofs.DispatchLemmas.{set}
use Rattle.net_laws.proofs.StepLemmas.{fired, group_is, stands_is, progress}
use Rattle.net_laws.proofs.AnswerLemmas.{held}

time_by_same : (at other : Times) (ms : List Member) → ((m : Member) → Has ms m → at m.point.0 ≡ other m.point.0) → time_by at ms ≡ time_by other ms
time_by_same at other [] h = refl
time_by_same at other (m ∷ ms) h = rw (h m (inl refl), time_by_same at other ms (λ x i. h x (inr i))) refl

module _ (c : ℕ) (net : Net) (is : IsReducedOf c (spread net) net) (at : Times) (n : ℤ) (now : IsReached c net at n) where
  module _ (g : Group) (m : Member) (ig : Contains net.groups g) (im : Contains (stands g) m) (none : at m.point.0 ≡ None) (may : MayBeNow c (spread net) at n m.point.0) where
    abbrev x : ℕ
    x = m.point.0

    below : x < c
    below = (stands_is c net is g (group_is c net is g ig) m im).below

    next : IsReached c net (put at x n) n
    next = fired c net at n now x below none may

    pub group_fired : group_time (put at x n) g ≡ Some (n -ℤ m.offset)
    group_fired = elim (cases_Option (group_time (put at x n) g)) [
      | inl e ↦
          let f : put at x n x ≡ None = time_by_none (put at x n) (stands g) e m (has_from (stands g) m im) in
          let h : put at x n x ≡ Some n = rw (eq-eqb x x refl) refl in
          absurd (cc)
      | inr r ↦
          let s = set c net (put at x n) n is next g m r.0 ig im r.1 next.some next.fits in
          let h : put at x n x ≡ Some n = rw (eq-eqb x x refl) refl in
          let same : r.0 ≡ n -ℤ m.offset = omega (arith, ints, s, next.fits.past x n h) in
          r.1 ∙ ap Some same
    ]

    pub other_fired : (h : Group) → Contains net.groups h → h.leader.0 ≢ g.leader.0 → group_time (put at x n) h ≡ group_time at h
    other_fired h ih other = time_by_same (put at x n) at (stands h) (λ l il.
        let k = group_is c net is g ig in
        let j = group_is c net is h ih in
        let sm = stands_is c net is g k m im in
        let sl = stands_is c net is h j l (contains_from (stands h) l il) in
        let table = table_of c (spread net) is.table is.tight in
        rw (ne_eqb l.point.0 x (λ same. other (
        let one : j.at ≡ k.at = one_leader c is.table table j.at k.at j.has k.has
        (rigid_join c is.table table j.at x k.at j.below sm.below k.below (subst (λ z. Rigid is.table j.at z) same sl.rigid) (rigid_back c is.table table k.at x sm.rigid)) in
        sym j.leader ∙ one ∙ k.leader))) refl)

  -- one time in every schedule is decided by the weights
  one_time_or : (x y : ℕ) → x < c → y < c → IsOneTime (spread net) x y ⊎ (IsOneTime (spread net) x y → ⊥)
  one_time_or x y ix iy =
      let a = is.tight.tight x y ix iy in
      let b = is.tight.tight y x iy ix in
      elim (cases_sign (pos 0 -ℤ is.table x y)) [
        | inr up ↦ inr (λ h. omega (arith, ints, up, a.least (pos 0) (record { holds = λ s f. omega (arith, ints, h.each s f) })))
        | inl low ↦ elim (cases_sign (pos 0 -ℤ is.table y x)) [
          | inr up ↦ inr (λ h. omega (arith, ints, up, b.least (pos 0) (record { holds = λ s f. omega (arith, ints, h.each s f) })))
          | inl back ↦ inl (record { each = λ s f. omega (arith, ints, low, back, a.implied.holds s f, b.implied.holds s f) })
        ]
      ]

  abbrev TiesTo : (ℕ → Bool) → ℕ → ℕ → Type 0
  TiesTo observed x y = IsTiedTo c (spread net) at observed x y

  tie_at : (observed : ℕ → Bool) (x y : ℕ) → x < c → y < c → TiesTo observed x y ⊎ (TiesTo observed x y → ⊥)
  tie_at observed x y ix iy = elim (cases_Bool (observed y)) [
    | inr no_ ↦ inr (λ h. both_ways (observed y) no_ h.watched)
    | inl yes_ ↦ elim (cases_Option (at y)) [
      | inr some ↦ inr (λ h. let f = h.waiting in let g = some.1 in absurd (cc))
      | inl none ↦ elim (cases_eq y x) [
        | inl same ↦ inr (λ h. h.other same)
        | inr other ↦ elim (one_time_or x y ix iy) [
          | inl one ↦ inl (record { below = iy; watched = yes_; waiting = none; other = other; together = one })
          | inr not_one ↦ inr (λ h. not_one h.together)
        ]
      ]
    ]
  ]

  tie_or : (observed : ℕ → Bool) (x : ℕ) → x < c → (k : ℕ) → k ≤ c → ((y : ℕ) × TiesTo observed x y) ⊎ ((y : ℕ) → y < k → TiesTo observed x y → ⊥)
  tie_or observed x ix zero h = inr (λ y i t. omega (arith, i))
  tie_or observed x ix (suc k) h = elim (tie_or observed x ix k (omega arith)) [
    | inl r ↦ inl r
    | inr all ↦ elim (tie_at observed x k ix (omega arith)) [
      | inl t ↦ inl (k, t)
      | inr no_ ↦ inr (λ y i t. elim (cases_eq y k) [
        | inl same ↦ no_ (subst (TiesTo observed x) same t)
        | inr other ↦ all y (omega (arith, i, other)) t
      ])
    ]
  ]

  late_at : (observed : ℕ → Bool) (y : ℕ) → y < c → observed y ≡ true → at y ≡ None → IsForced c (spread net) at n y → LateBound c (spread net) at n observed
  late_at observed y iy watched none forced =
      let r = held c net is at n now y iy none forced in
      record { from = r.0; to = y; most = r.2; at_from = r.1; set = r.3; watched = watched; open_to = none; tight = r.4; late = omega (arith, ints, r.5) }

  pub tick_or : (observed : ℕ → Bool) → MayTick c (spread net) at n ⊎ (((x : ℕ) × IsDue c (spread net) at n observed x) ⊎ LateBound c (spread net) at n observed)
  tick_or observed = elim (progress c net is at n now) [
    | inl may ↦ inl may
    | inr r ↦ inr (elim (cases_Bool (observed r.0)) [
      | inl watched ↦ inr (late_at observed r.0 r.1 watched r.2 r.3)
      | inr free ↦ elim (tie_or observed r.0 r.1 c (omega arith)) [
        | inl t ↦ inr (late_at observed t.0 t.1.below t.1.watched t.1.waiting (record { each = λ s f. sym (t.1.together.each s f.meets) ∙ r.3.each s f }))
        | inr none ↦ inl (
          r.0,
          record {
            below = r.1;
            none = r.2;
            forced = r.3;
            free = free;
            untied = λ y t. none y t.below t;
          },
        )
      ]
    ])
  ]
