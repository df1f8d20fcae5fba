-- Windows decide what kept edges decide.
use Rattle.std.proofs.Common.{◌≡◌, ◌≢◌, ℕ, ◌<◌, List, refl, sym, ap, ◌∙◌, subst, arith, pos, inl, inr, ◌⊎◌, ◌↔◌, Some, None}
use Rattle.std.proofs.lemmas.Int.{ints}
use Rattle.std.proofs.lemmas.Bool.{cases_eq, eq-eqb, ne_eqb}
use Rattle.std.specs.Prelude.{ℤ, ◌+ℤ◌, ◌-ℤ◌, ◌≤ℤ◌, Contains}
use Rattle.hs_base.specs.declared.limits.TheConstants.{LAST}
use Rattle.hs_base.specs.declared.net.Bound.{Bound}
use Rattle.hs_base.specs.declared.net.Member.{Member}
use Rattle.hs_base.specs.declared.net.Group.{Group}
use Rattle.hs_base.specs.declared.net.Net.{Net}
use Rattle.hs_base.specs.Network.{spread}
use Rattle.hs_base.specs.Reduced.{IsReducedOf, group_of}
use Rattle.hs_base.specs.Fits.{Times, MayTick, put}
use Rattle.hs_base.specs.Dispatch.{stands, group_time, leader_times, IsEnabled, IsReached}
use Rattle.hs_base.specs.Windows.{IsLow, IsHigh, AreSet, AreHigh, AreLater}
use Rattle.net_laws.proofs.KeptLemmas.{cases_sign}
use Rattle.net_laws.proofs.ListLemmas.{contains_from}
use Rattle.net_laws.proofs.GroupLemmas.{has_leader, LeadsOver}
use Rattle.net_laws.proofs.ExactLemmas.{table_of}
use Rattle.net_laws.proofs.TimeLemmas.{time_by_some, time_by_none}
use Rattle.net_laws.proofs.DispatchLemmas.{tick}
use Rattle.net_laws.proofs.StepLemmas.{group_is, stands_is, edge_is, leader_group}

module _ (c : ℕ) (net : Net) (is : IsReducedOf c (spread net) net) (at : Times) (n : ℤ) (now : IsReached c net at n) where
  -- a set leader is not later than now
  set_before : (a : ℕ) (t : ℤ) (g : Group) → Contains net.groups g → group_time at g ≡ Some t → t ≤ℤ n
  set_before a t g ig e =
      let r = time_by_some at (stands g) t e in
      let k = group_is c net is g ig in
      let sm = stands_is c net is g k r.0 (contains_from (stands g) r.0 r.2) in
      let lead : LeadsOver is.table k.at r.0.point.0 = (has_leader c is.table (table_of c (spread net) is.table is.tight) k.at k.has).1 r.0.point.0 sm.below sm.rigid in
      omega (arith, ints, r.4, sm.offset, now.late r.0.point.0 r.1 r.3, lead.early)

  pub window_enables : (a : ℕ) (v : ℤ) → IsLow net.edges (leader_times net.groups at) a v → IsEnabled net.edges (leader_times net.groups at) n a ↔ (AreSet net.edges (leader_times net.groups at) a × (v ≤ℤ n))
  window_enables a v low =
      let zero = now.late 0 (pos 0) now.origin in (
        λ h. (
          λ e ie from neg. let go = h e ie from neg in (go.at, go.set),
          elim low.among [
            | inl z ↦ omega (arith, ints, z, zero)
            | inr r ↦ elim (cases_sign r.0.most) [
              | inr down ↦
                  let go = h r.0 r.2 r.3 down in
                  let f = go.set in
                  let g = r.4 in
                  let same : go.at ≡ r.1 = cc in
                  omega (arith, ints, go.gone, same, r.5)
              | inl up ↦
                  let e : Bound = r.0 in
                  let edge = edge_is c net is e r.2 in
                  let g = leader_group c net is at n now e.to.0 edge.to_in in
                  omega (arith, ints, up, r.5, set_before e.to.0 r.1 (group_of c is.table e.to.0) g.0 (sym g.1 ∙ r.4))
            ]
          ],
        ),
        λ h e ie from neg. let s = h.0 e ie from neg in record { at = s.0; set = s.1; gone = omega (arith, ints, low.covers e s.0 ie from s.1, h.1) },
      )

  pub windows_free : (high : ℕ → ℤ) → AreHigh net at high → MayTick c (spread net) at n ↔ AreLater net at high n
  windows_free high is_high = (
    λ may.
        let free = (tick c net at n is now).0 may in
        record {
          windows = λ g ig none.
              let v = is_high.each g ig none in
              let k = group_is c net is g ig in
              let self : Member = record { point = g.leader; offset = pos 0 } in
              let unset : at g.leader.0 ≡ None = time_by_none at (stands g) none self (inl refl) in
              let il : g.leader.0 < c = omega (arith, k.below, k.leader) in
              let later = may.later g.leader.0 il unset in
              let last = (is.tight.before_last g.leader.0 il).holds may.s may.fits.meets in
              elim v.among [
                | inl z ↦ omega (arith, ints, z, later, last, may.fits.meets.origin)
                | inr r ↦
                    let e : Bound = r.0 in
                    let edge = edge_is c net is e r.2 in
                    let h = leader_group c net is at n now e.to.0 edge.to_in in
                    let there : leader_times net.groups at e.to.0 ≡ None = ap (leader_times net.groups at) r.3 ∙ ap (leader_times net.groups at) (sym k.leader) ∙ (leader_group c net is at n now k.at k.has).1 ∙ ap (group_time at) k.is_it ∙ none in
                    omega (arith, ints, free.edges e r.1 r.2 r.4 there, r.5)
              ];
          points = free.points;
        },
    λ h. (tick c net at n is now).1 (record {
      edges = λ e t ie set none.
          let edge = edge_is c net is e ie in
          let g = leader_group c net is at n now e.to.0 edge.to_in in
          let unset : group_time at (group_of c is.table e.to.0) ≡ None = sym g.1 ∙ none in
          omega (arith, ints, (is_high.each (group_of c is.table e.to.0) g.0 unset).covers e t ie refl set, h.windows (group_of c is.table e.to.0) g.0 unset);
      points = h.points;
    }),
  )

-- one more set leader
module _ (edges : List Bound) (time : Times) (a : ℕ) (t : ℤ) (unset : time a ≡ None) where
  now_set : put time a t a ≡ Some t
  now_set = rw (eq-eqb a a refl) refl

  as_before : (x : ℕ) → x ≢ a → put time a t x ≡ time x
  as_before x h = rw (ne_eqb x a h) refl

  pub low_set : (x : ℕ) (old v : ℤ) → IsLow edges time x old → old ≤ℤ v → ((e : Bound) → Contains edges e → e.from.0 ≡ x → e.to.0 ≡ a → (t -ℤ e.most) ≤ℤ v)
      → (v ≡ old) ⊎ ((e : Bound) × Contains edges e × (e.from.0 ≡ x) × (e.to.0 ≡ a) × (v ≡ t -ℤ e.most)) → IsLow edges (put time a t) x v
  low_set x old v low up each among = record {
    start = omega (arith, ints, low.start, up);
    covers = λ e u ie from s. elim (cases_eq e.to.0 a) [
      | inl same ↦
          let g : put time a t a ≡ Some u = subst (λ z. put time a t z ≡ Some u) same s in
          let h : Some t ≡ Some u = sym now_set ∙ g in
          let w : t ≡ u = cc in
          omega (arith, ints, w, each e ie from same)
      | inr other ↦ omega (arith, ints, up, low.covers e u ie from (sym (as_before e.to.0 other) ∙ s))
    ];
    among = elim among [
      | inr r ↦ inr (r.0, t, r.1, r.2, ap (put time a t) r.3 ∙ now_set, r.4)
      | inl e ↦ elim low.among [
        | inl z ↦ inl (e ∙ z)
        | inr r ↦ inr (r.0, r.1, r.2, r.3, as_before r.0.to.0 (λ same. absurd (let g : time r.0.to.0 ≡ None = ap time same ∙ unset in let h = r.4 in cc)) ∙ r.4, e ∙ r.5)
      ]
    ];
  }

  pub high_set : (x : ℕ) (old v : ℤ) → IsHigh edges time x old → v ≤ℤ old → ((e : Bound) → Contains edges e → e.to.0 ≡ x → e.from.0 ≡ a → v ≤ℤ (t +ℤ e.most))
      → (v ≡ old) ⊎ ((e : Bound) × Contains edges e × (e.to.0 ≡ x) × (e.from.0 ≡ a) × (v ≡ t +ℤ e.most)) → IsHigh edges (put time a t) x v
  high_set x old v high down each among = record {
    start = omega (arith, ints, high.start, down);
    covers = λ e u ie to s. elim (cases_eq e.from.0 a) [
      | inl same ↦
          let g : put time a t a ≡ Some u = subst (λ z. put time a t z ≡ Some u) same s in
          let h : Some t ≡ Some u = sym now_set ∙ g in
          let w : t ≡ u = cc in
          omega (arith, ints, w, each e ie to same)
      | inr other ↦ omega (arith, ints, down, high.covers e u ie to (sym (as_before e.from.0 other) ∙ s))
    ];
    among = elim among [
      | inr r ↦ inr (r.0, t, r.1, r.2, ap (put time a t) r.3 ∙ now_set, r.4)
      | inl e ↦ elim high.among [
        | inl z ↦ inl (e ∙ z)
        | inr r ↦ inr (r.0, r.1, r.2, r.3, as_before r.0.from.0 (λ same. absurd (let g : time r.0.from.0 ≡ None = ap time same ∙ unset in let h = r.4 in cc)) ∙ r.4, e ∙ r.5)
      ]
    ];
  }

-- before any leader is set
pub low_none : (edges : List Bound) (time : Times) (x : ℕ) → ((y : ℕ) → time y ≡ None) → IsLow edges time x (pos 0)
low_none edges time x none = record { start = omega (arith, ints); covers = λ e t ie from s. absurd (let g = none e.to.0 in cc); among = inl refl }

pub high_none : (edges : List Bound) (time : Times) (x : ℕ) → ((y : ℕ) → time y ≡ None) → IsHigh edges time x LAST
high_none edges time x none = record { start = omega (arith, ints); covers = λ e t ie from s. absurd (let g = none e.from.0 in cc); among = inl refl }
