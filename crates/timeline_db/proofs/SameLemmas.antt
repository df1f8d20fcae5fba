-- The trail's bounds have the schedules of the partial plan.
use Rattle.std.proofs.Common.{◌≡◌, ℕ, suc, List, [], ◌∷◌, ◌++◌, Some, slice_get, get_or, sym, ap, subst, append_assoc, append-nil, arith}
use Rattle.std.proofs.lemmas.Int.{ints}
use Rattle.std.proofs.lemmas.Option.{slice_get-get_or}
use Rattle.hs_base.specs.Bounds.{goals_of, on_some}
use Rattle.hs_base.specs.Ranges.{InRange, whole}
use Rattle.hs_base.specs.Schedule.{Holds, Meets, Schedule}
use Rattle.hs_base.specs.declared.mission.Goal.{Goal}
use Rattle.hs_base.specs.declared.mission.Mission.{Mission}
use Rattle.hs_base.specs.declared.net.Bound.{Bound}
use Rattle.hs_base.specs.declared.plan.TokenRef.{TokenRef}
use Rattle.base_laws.proofs.ListLemmas.{each_both, each_split}
use Rattle.search_tree.proofs.CellLemmas.{given_cell, held_is}
use Rattle.search_tree.proofs.PartLemmas.{All', Both, adds_part}
use Rattle.search_tree.specs.Begun.{Begun, number}
use Rattle.search_tree.specs.May.{IsSlot, IsThere, MayDo}
use Rattle.search_tree.specs.Outset.{MayBegin}
use Rattle.search_tree.specs.PartBounds.{part_bounds}
use Rattle.search_tree.specs.Partial.{Partial, Row, cells, held_at, held_by, nobody, row}
use Rattle.search_tree.specs.PartialBounds.{backing_bounds, partial_bounds}
use Rattle.search_tree.specs.Parts.{do_part, do_parts, gap_cell, joined_cell}
use Rattle.search_tree.specs.declared.backing.Backing.{Backing}
use Rattle.search_tree.specs.declared.held.Held.{Held}
use Rattle.search_tree.specs.declared.part.Part.{Part}
use Rattle.search_tree.specs.declared.part.Part.TheVariants.{Deferred, Finished, Followed, Inserted, Joined, MetGoal, Supported}
use Rattle.search_laws.proofs.GoodLemmas.{good_part}
use Rattle.timeline_db.proofs.KeptLemmas.{IsKnown, gap_both, joined_both}
use Rattle.timeline_db.proofs.NarrowLemmas.{IsWithin, backing_whole, goal_whole, narrow_both}
use Rattle.timeline_db.proofs.TimeLemmas.{held_met, mark_met, tick_whole}
use Rattle.search_laws.specs.Good.{AreAllowed, IsGood}
use Rattle.timeline_db.specs.Kept.{goal_kept, kept_bounds, kept_of, tick_of}

module _ (m : Mission) (b : Begun) (may : MayBegin m b) (p : Partial) (good : IsGood m b p) (t : Schedule) (meets : Meets (partial_bounds m b p) t) where
  known : (v i : ℕ) (r : Row) → slice_get p.rows v ≡ Some r → IsSlot i r → IsKnown b t (tick_of m b) (held_at p v i).stop
  known v i r is slot =
      let place = slot.place in
      let c = get_or (cells r) i (given_cell nobody) in
      let here = slice_get-get_or (cells r) i (given_cell nobody) (omega arith) in
      let held = held_is p v i r c is here in
      let tick = tick_whole m b may in
      record {
        origin = meets.origin;
        mark = mark_met m b p t meets may;
        at = (omega (arith, ints, tick.0), omega (arith, ints, tick.1));
        since = may.fixed.since;
        before = subst (λ n. InRange whole (t n)) (ap (λ (x : Held). x.stop) (sym held)) (held_met m b p t meets good.sound v i r c is here).stop;
      }

  -- a token's points stand within 0 to LAST
  there_met : (x : TokenRef) → IsThere p x → IsWithin t (held_by p x)
  there_met x h = subst (IsWithin t) (sym (held_is p x.sv.0 x.place h.row h.cell h.is_row h.here)) (held_met m b p t meets good.sound x.sv.0 x.place h.row h.cell h.is_row h.here)

  -- where the partial plan's bounds are kept, a part's bounds are kept where those on the trail are
  kept_part : (x : Part) → MayDo m b p x → Both (All' t (part_bounds m b p x)) (All' t (kept_bounds m b p x))
  kept_part (Inserted v i value) h = gap_both m b t (tick_of m b) (held_at p v.0 i).stop (known v.0 i h.row h.is_row h.slot) (gap_cell p v.0 value.0).held (slice_get (cells (row p v.0)) (suc i)) h.known h.is_known
  kept_part (Followed v i value) h = joined_both m b t (tick_of m b) (joined_cell p v.0 i value.0).held (known v.0 i h.insert.row h.insert.is_row h.insert.slot) (slice_get (cells (row p v.0)) (suc i)) h.insert.known h.insert.is_known
  kept_part (Joined v i) h = (λ k. k, λ k. k)
  kept_part (Finished v) h =
      let origin = meets.origin in
      let mark = mark_met m b p t meets may in
      (λ k. (let e = k.0 in omega (arith, ints), tt), λ k. (let e = k.0 in omega (arith, ints), tt))
  kept_part (Supported x i by) h =
      let s : Backing = record { token = held_by p x; need = i; by = held_by p by } in
      narrow_both t (backing_bounds m s) (backing_whole t m s (there_met x h.token) (there_met by h.server))
  kept_part (MetGoal g by) h =
      let origin = meets.origin in
      let goal = slice_get (goals_of m (number b)) g in
      narrow_both t (on_some goal (λ (x : Goal). goal_kept x (held_by p by))) (goal_whole t goal (held_by p by) (omega (arith, ints), omega (arith, ints)) (there_met by h.server))
  kept_part (Deferred x i) h = (λ k. k, λ k. k)

-- two lists of bounds have the same schedules
pub record AreSame (xs ys : List Bound) : Type 0 where
  pub keeps : (t : Schedule) → Meets xs t → Meets ys t
  pub tells : (t : Schedule) → Meets ys t → Meets xs t

-- one part more
pub same_part : (m : Mission) (b : Begun) → MayBegin m b → (p : Partial) → IsGood m b p → (x : Part) → MayDo m b p x → (xs : List Bound) → AreSame xs (partial_bounds m b p) → AreSame (xs ++ kept_bounds m b p x) (partial_bounds m b (do_part p x))
same_part m b begins p good x may xs same =
    let adds = adds_part m begins.checked.mission b p x may in
    record {
      keeps = λ t h.
          let s = each_split (Holds t) xs (kept_bounds m b p x) h.each in
          let now = same.keeps t (record { origin = h.origin; each = s.0 }) in
          adds.tells t (record { origin = h.origin; each = each_both (Holds t) (partial_bounds m b p) (part_bounds m b p x) now.each ((kept_part m b begins p good t now x may).1 s.1) });
      tells = λ t h.
          let k = adds.keeps t h in
          let s = each_split (Holds t) (partial_bounds m b p) (part_bounds m b p x) k.each in
          let now : Meets (partial_bounds m b p) t = record { origin = h.origin; each = s.0 } in
          record { origin = h.origin; each = each_both (Holds t) xs (kept_bounds m b p x) (same.tells t now).each ((kept_part m b begins p good t now x may).0 s.1) };
    }

-- all parts
pub same_parts : (m : Mission) (b : Begun) → MayBegin m b → (p : Partial) → IsGood m b p → (ps : List Part) → AreAllowed m b p ps → (xs : List Bound) → AreSame xs (partial_bounds m b p) → AreSame (xs ++ kept_of m b p ps) (partial_bounds m b (do_parts p ps))
same_parts m b begins p good [] h xs same = subst (λ (l : List Bound). AreSame l (partial_bounds m b p)) (sym (append-nil xs)) same
same_parts m b begins p good (x ∷ ps) h xs same =
    subst (λ (l : List Bound). AreSame l (partial_bounds m b (do_parts (do_part p x) ps))) (append_assoc xs (kept_bounds m b p x) (kept_of m b (do_part p x) ps))
    (same_parts m b begins (do_part p x) (good_part m b p x h.0.0 h.0.1 good) ps h.1 (xs ++ kept_bounds m b p x) (same_part m b begins p good x h.0.0 xs same))
