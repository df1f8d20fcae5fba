-- The times of a partial plan's tokens in its schedules.
use Rattle.std.proofs.Common.{◌≡◌, ℕ, zero, suc, ◌+◌, ◌-◌, ◌<◌, List, ◌++◌, Option, Some, length, map, flat_map, slice_get, pos, sym, ap, ◌∙◌, subst, inl, inr, arith}
use Rattle.std.proofs.lemmas.Bool.{cases_lt}
use Rattle.std.proofs.lemmas.Int.{ints}
use Rattle.std.proofs.lemmas.Option.{slice_get_within}
use Rattle.std.specs.List.{AllByRecursion}
use Rattle.std.specs.Prelude.{◌-ℤ◌, ◌≤ℤ◌, option_map, unwrap_or}
use Rattle.hs_base.specs.Bounds.{bounds_of, exactly, fixed_bounds, goals_of, horizon_bounds, on_some, point_bounds, since_bounds}
use Rattle.hs_base.specs.Points.{count, start_at, timeline_of, tokens_of}
use Rattle.hs_base.specs.Ranges.{InRange, whole}
use Rattle.hs_base.specs.Schedule.{Holds, Meets, Schedule}
use Rattle.hs_base.specs.declared.mission.Horizon.{Horizon}
use Rattle.hs_base.specs.declared.mission.Mission.{Mission}
use Rattle.hs_base.specs.declared.net.Bound.{Bound}
use Rattle.base_laws.proofs.ListLemmas.{each_flat, each_split, slice_get-append_left}
use Rattle.base_laws.proofs.MissionLemmas.{horizon_is}
use Rattle.plan_laws.proofs.LengthLemmas.{points_in}
use Rattle.search_tree.proofs.CellLemmas.{given_cell, held_from_at, held_from_start, length-held, row_at, slice_get-map_some, slice_get-past, start_at_below}
use Rattle.search_tree.specs.Begun.{Begun, newest, number, stub}
use Rattle.search_tree.specs.Outset.{MayBegin}
use Rattle.search_tree.specs.Partial.{Partial, Row, cells, held_from}
use Rattle.search_tree.specs.PartialBounds.{backing_bounds, begun_bounds, finish_bounds, goals_met, link_bounds, partial_bounds, row_bounds, token_bounds}
use Rattle.search_tree.specs.Sound.{IsSound}
use Rattle.search_tree.specs.declared.held.Cell.{Cell}
use Rattle.search_tree.specs.declared.held.Held.{Held}
use Rattle.timeline_db.proofs.NarrowLemmas.{IsWithin}
use Rattle.timeline_db.specs.Kept.{tick_of}

-- the tick of the next horizon is one
pub tick_is : (m : Mission) (b : Begun) (may : MayBegin m b) → tick_of m b ≡ may.horizon.tick
tick_is m b may = ap (λ (o : Option Horizon). unwrap_or (option_map (λ (h : Horizon). h.tick) o) (pos 0)) may.is_horizon

pub tick_whole : (m : Mission) (b : Begun) → MayBegin m b → (pos 1 ≤ℤ tick_of m b) × (tick_of m b ≤ℤ pos 1000000)
tick_whole m b may =
    let e = tick_is m b may in
    let h = (horizon_is m (length b.base) may.horizon may.checked.mission may.is_horizon).tick in
    (omega (arith, ints, h.0), omega (arith, ints, h.1))

module _ (m : Mission) (b : Begun) (p : Partial) (t : Schedule) (meets : Meets (partial_bounds m b p) t) where
  abbrev rows_list : List Bound
  rows_list = flat_map (row_bounds m b) p.rows

  abbrev backings : List Bound
  backings = flat_map (backing_bounds m) p.supports

  begun_met : AllByRecursion (Holds t) (begun_bounds m b)
  begun_met =
      let a = each_split (Holds t) (begun_bounds m b ++ rows_list ++ backings) (goals_met (goals_of m (number b)) p.goals) meets.each in
      let c = each_split (Holds t) (begun_bounds m b ++ rows_list) backings a.0 in
      (each_split (Holds t) (begun_bounds m b) rows_list c.0).0

  rows_met : AllByRecursion (Holds t) rows_list
  rows_met =
      let a = each_split (Holds t) (begun_bounds m b ++ rows_list ++ backings) (goals_met (goals_of m (number b)) p.goals) meets.each in
      let c = each_split (Holds t) (begun_bounds m b ++ rows_list) backings a.0 in
      (each_split (Holds t) (begun_bounds m b) rows_list c.0).1

  abbrev opening : List Bound
  opening = bounds_of m b.base ++ horizon_bounds m (stub b) (number b)

  opening_met : AllByRecursion (Holds t) opening
  opening_met =
      let a = each_split (Holds t) (opening ++ point_bounds (count b.base) 1 ++ fixed_bounds b.fixed) (since_bounds (stub b) b.since) begun_met in
      let c = each_split (Holds t) (opening ++ point_bounds (count b.base) 1) (fixed_bounds b.fixed) a.0 in
      (each_split (Holds t) opening (point_bounds (count b.base) 1) c.0).0

  base_met : Meets (bounds_of m b.base) t
  base_met = record { origin = meets.origin; each = (each_split (Holds t) (bounds_of m b.base) (horizon_bounds m (stub b) (number b)) opening_met).0 }

  -- the next horizon's point stands at its tick
  pub mark_met : MayBegin m b → t (newest b) ≡ tick_of m b
  mark_met may =
      let h = (each_split (Holds t) (bounds_of m b.base) (horizon_bounds m (stub b) (number b)) opening_met).1 in
      let e : number b - 1 ≡ length b.base = omega arith in
      let is : slice_get m.horizons (number b - 1) ≡ Some may.horizon = ap (slice_get m.horizons) e ∙ may.is_horizon in
      let k = subst (λ (o : Option Horizon). AllByRecursion (Holds t) (on_some o (λ (g : Horizon). exactly (newest b) g.tick))) is h in
      let low = k.0 in
      let high = k.1.0 in
      let origin = meets.origin in
      let tick = tick_is m b may in
      omega (arith, ints)

  -- a point of the plan that is extended stands within 0 to LAST
  base_point : (k : ℕ) → k < count b.base → InRange whole (t k)
  base_point zero below = let origin = meets.origin in (omega (arith, ints), omega (arith, ints))
  base_point (suc k) below =
      let origin = meets.origin in
      let q : InRange whole (t (suc k) -ℤ t 0) = (points_in m t b.base base_met).each (suc k) (omega arith) below in
      (omega (arith, ints, q.0), omega (arith, ints, q.1))

  -- a token's points stand within 0 to LAST
  pub held_met : IsSound m b p → (v i : ℕ) (r : Row) (c : Cell) → slice_get p.rows v ≡ Some r → slice_get (cells r) i ≡ Some c → IsWithin t c.held
  held_met sound v i r c is here = elim (cases_lt i (length (map given_cell r.given))) [
    | inl given ↦
        let row = row_at b 0 v p.rows r sound.rows is in
        let ks = timeline_of (tokens_of b.base) (0 + v) in
        let at : slice_get (map given_cell r.given) i ≡ Some c = sym (slice_get-append_left (map given_cell r.given) r.added i given) ∙ here in
        let x = slice_get-map_some given_cell r.given i c at in
        let y : slice_get (held_from b (0 + v) 0 ks) i ≡ Some x.0 = ap (λ (hs : List Held). slice_get hs i) (sym row.given) ∙ x.1 in
        let start : (x.0).start ≡ start_at b.base (0 + v) (0 + i) = held_from_start b (0 + v) 0 i ks x.0 y in
        let stop : (x.0).stop ≡ start_at b.base (0 + v) (suc (0 + i)) = held_from_at b (0 + v) 0 i ks x.0 y in
        let inside = slice_get_within (held_from b (0 + v) 0 ks) i x.0 y in
        let many = length-held b (0 + v) 0 ks in
        let first = base_point (start_at b.base (0 + v) (0 + i)) (start_at_below b.base (0 + v) (0 + i) (omega arith)) in
        let last = base_point (start_at b.base (0 + v) (suc (0 + i))) (start_at_below b.base (0 + v) (suc (0 + i)) (omega arith)) in
        record {
          start = subst (λ n. InRange whole (t n)) (sym start ∙ ap (λ (z : Cell). z.held.start) x.2) first;
          stop = subst (λ n. InRange whole (t n)) (sym stop ∙ ap (λ (z : Cell). z.held.stop) x.2) last;
        }
    | inr added ↦
        let at : slice_get r.added (i - length (map given_cell r.given)) ≡ Some c = sym (slice_get-past (map given_cell r.given) r.added i added) ∙ here in
        let row = each_flat (Holds t) (row_bounds m b) p.rows v r rows_met is in
        let new = flat_map (λ (c : Cell). token_bounds m b c.held) r.added in
        let a = each_split (Holds t) (new ++ link_bounds 0 (cells r)) (finish_bounds b r) row in
        let tokens = (each_split (Holds t) new (link_bounds 0 (cells r)) a.0).0 in
        let h = each_flat (Holds t) (λ (c : Cell). token_bounds m b c.held) r.added (i - length (map given_cell r.given)) c tokens at in
        new_met m b t meets.origin c.held h
  ]
    where
      new_met : (m : Mission) (b : Begun) (t : Schedule) → t 0 ≡ pos 0 → (x : Held) → AllByRecursion (Holds t) (token_bounds m b x) → IsWithin t x
      new_met m b t origin x h =
          let start_high = h.0 in
          let start_low = h.1.0 in
          let stop_high = h.1.1.0 in
          let stop_low = h.1.1.1.0 in
          record { start = (omega (arith, ints), omega (arith, ints)); stop = (omega (arith, ints), omega (arith, ints)) }
