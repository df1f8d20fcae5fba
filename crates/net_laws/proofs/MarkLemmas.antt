-- Where a mark comes from, and the tight bound that this gives.
use Rattle.std.proofs.Common.{◌≡◌, ℕ, List, refl, sym, ap, ◌∙◌, subst, arith, pos, inl, Some, None}
use Rattle.std.proofs.lemmas.Int.{ints}
use Rattle.std.specs.Prelude.{ℤ, ◌-ℤ◌, ◌≤ℤ◌, Contains}
use Rattle.hs_base.specs.declared.net.Bound.{Bound}
use Rattle.hs_base.specs.declared.net.Member.{Member}
use Rattle.hs_base.specs.declared.net.Group.{Group}
use Rattle.hs_base.specs.declared.net.Net.{Net}
use Rattle.hs_base.specs.Schedule.{Schedule, Meets, Holds, Tight}
use Rattle.hs_base.specs.Network.{spread}
use Rattle.hs_base.specs.Reduced.{IsReducedOf}
use Rattle.hs_base.specs.Fits.{Times}
use Rattle.hs_base.specs.Dispatch.{stands, group_time, leader_times, Marked, MarkedFrom, IsReached, by_set, by_mark, from_set, from_mark}
use Rattle.net_laws.proofs.ListLemmas.{has_from, contains_from, each_of, append_left}
use Rattle.net_laws.proofs.DispatchLemmas.{set, forced, member}
use Rattle.net_laws.proofs.StepLemmas.{weight_inside, leader_group, group_is}

module _ (edges : List Bound) (time : Times) (n : ℤ) where
  -- each mark comes from a set leader
  pub origin_of : (u : ℕ) → Marked edges time n u → (q : ℕ) × MarkedFrom edges time n q u
  origin_of _ (by_set e t ie is_set none tight) = (e.from.0, from_set e t ie refl is_set none tight)
  origin_of _ (by_mark e ie mark none flat) = let r = origin_of e.from.0 mark in (r.0, from_mark e ie r.1 none flat)

  pub forget_origin : (q u : ℕ) → MarkedFrom edges time n q u → Marked edges time n u
  forget_origin q _ (from_set e t ie is_q is_set none tight) = by_set e t ie (ap time is_q ∙ is_set) none tight
  forget_origin q _ (from_mark e ie mark none flat) = by_mark e ie (forget_origin q e.from.0 mark) none flat

  origin_set : (q u : ℕ) → MarkedFrom edges time n q u → (t : ℤ) × (time q ≡ Some t)
  origin_set q _ (from_set e t ie is_q is_set none tight) = (t, is_set)
  origin_set q _ (from_mark e ie mark none flat) = origin_set q e.from.0 mark

  -- in each schedule of the edges it is at most n less the origin's time after it
  origin_implies : (s : Schedule) → ((e : Bound) → Contains edges e → (s e.to.0 -ℤ s e.from.0) ≤ℤ e.most) → (q u : ℕ) (t : ℤ) → time q ≡ Some t → MarkedFrom edges time n q u → (s u -ℤ s q) ≤ℤ (n -ℤ t)
  origin_implies s holds q _ t is_t (from_set e v ie is_q is_set none tight) = let same : v ≡ t = cc in omega (arith, ints, holds e ie, ap s is_q, tight, same)
  origin_implies s holds q _ t is_t (from_mark e ie mark none flat) = omega (arith, ints, holds e ie, flat, origin_implies s holds q e.from.0 t is_t mark)

module _ (c : ℕ) (net : Net) (is : IsReducedOf c (spread net) net) (at : Times) (n : ℤ) (now : IsReached c net at n) where
  -- a point of a marked group is at most n less an executed point's time after it, and no less
  pub origin_tight : (q u : ℕ) (g h : Group) (m l : Member) (v : ℤ) → MarkedFrom net.edges (leader_times net.groups at) n q u → Contains net.groups g → Contains net.groups h → g.leader.0 ≡ q → h.leader.0 ≡ u
      → Contains (stands g) m → Contains (stands h) l → at m.point.0 ≡ Some v → l.offset ≡ pos 0 → group_time at h ≡ None → Tight (spread net) m.point.0 l.point.0 (n -ℤ v)
  origin_tight q u g h m l v mark ig ih is_q is_u im il is_v flat none =
      let time : Times = leader_times net.groups at in
      let t = origin_set net.edges time n q u mark in
      let k = group_is c net is g ig in
      let group_set : group_time at g ≡ Some t.0 = sym (ap (group_time at) k.is_it) ∙ sym (leader_group c net is at n now k.at k.has).1 ∙ ap time (k.leader ∙ is_q) ∙ t.1 in
      let first : Member = record { point = g.leader; offset = pos 0 } in
      let second : Member = record { point = h.leader; offset = pos 0 } in
      let i_first = contains_from (stands g) first (inl refl) in
      let i_second = contains_from (stands h) second (inl refl) in
      let m_after = weight_inside c net is g first m ig i_first im in
      let m_before = weight_inside c net is g m first ig im i_first in
      let l_after = weight_inside c net is h second l ih i_second il in
      let chain : (s : Schedule) → Meets (spread net) s → (s u -ℤ s q) ≤ℤ (n -ℤ t.0) = λ s f.
      origin_implies net.edges time n s (λ e ie. each_of (Holds s) (spread net) e f.each (append_left net.edges _ e (has_from net.edges e ie))) q u t.0 t.1 mark in
      let start = set c net at n is now g m t.0 ig im group_set now.some now.fits in
      let there = now.fits.past m.point.0 v is_v in
      let forced_u = (forced c net at n is now h ih none).1 (subst (Marked net.edges time n) (sym is_u) (forget_origin net.edges time n q u mark)) in
      let l_forced = ((member c net at n is now h l ih il none).0).1 (flat, forced_u) in
      let end = l_forced.each now.some now.fits in
      record {
        implied = record { holds = λ s f. omega (arith, ints, chain s f, m_before.implied.holds s f, l_after.implied.holds s f, ap s is_q, ap s is_u, flat, start, there) };
        least = λ w h. omega (arith, ints, h.holds now.some now.fits.meets, end, there);
      }
