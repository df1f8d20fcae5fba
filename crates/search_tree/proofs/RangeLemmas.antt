-- The bounds of partial plans are between their points, and within LAST.
use Rattle.std.proofs.Common.{List, None, Option, Some, [], ap, append_assoc, arith, cond, flat_map, get_or, inl, inr, length, map, neg_ℤ, negsuc, pos, refl, set, slice_get, subst, suc, sym, ℕ, ◌++◌, ◌+◌, ◌-◌, ◌<◌, ◌∙◌, ◌∷◌, ◌≡◌, ◌≤◌}
use Rattle.std.proofs.lemmas.Bool.{cases_Bool}
use Rattle.std.proofs.lemmas.Int.{ints}
use Rattle.std.proofs.lemmas.Option.{get_or_from_slice_get, slice_get-get_or}
use Rattle.std.specs.List.{AllByRecursion}
use Rattle.hs_base.specs.Bounds.{apart, bounds_of, exactly, fixed_bounds, goals_of, horizon_bounds, is_fixed, on_some, point_bounds, relation_bounds, since_bounds}
use Rattle.hs_base.specs.Checked.{KeepsFixedAt}
use Rattle.hs_base.specs.Missions.{HasRanges, IsGoal, IsMission}
use Rattle.hs_base.specs.Needs.{choice_by, needs_of}
use Rattle.hs_base.specs.Points.{count, start, stop, value_of}
use Rattle.hs_base.specs.Ranges.{InRange, IsRange, range, whole}
use Rattle.hs_base.specs.Schedule.{bound, numbers_from}
use Rattle.hs_base.specs.Walks.{EachAfter}
use Rattle.hs_base.specs.declared.mission.Goal.{Goal}
use Rattle.hs_base.specs.declared.mission.Horizon.{Horizon}
use Rattle.hs_base.specs.declared.mission.Mission.{Mission}
use Rattle.hs_base.specs.declared.mission.Value.{Value}
use Rattle.hs_base.specs.declared.net.Bound.{Bound}
use Rattle.hs_base.specs.declared.plan.Time.{Time}
use Rattle.hs_base.specs.declared.plan.TokenRef.{TokenRef}
use Rattle.hs_base.specs.declared.range.Range.{Range}
use Rattle.hs_base.specs.declared.relation.Relation.{Relation}
use Rattle.hs_base.specs.declared.relation.Relation.TheVariants.{After, Before, ContainedBy, Contains as Encloses, Ends, Equals, Meets as MeetsStart, MetBy, Starts}
use Rattle.base_laws.proofs.ListLemmas.{each_at, each_both, each_weaker, slice_get-append_right, slice_get-middle}
use Rattle.base_laws.proofs.MissionLemmas.{choice_ranges, horizon_is, value_is}
use Rattle.plan_laws.proofs.FitLemmas.{bounds_fit}
use Rattle.plan_laws.proofs.LegalLemmas.{ts}
use Rattle.plan_laws.specs.Fit.{IsFit}
use Rattle.search_tree.proofs.CellLemmas.{each_from_at, given_cell, held_is, some_before, stub_count}
use Rattle.search_tree.proofs.PartLemmas.{shut}
use Rattle.search_tree.proofs.RootLemmas.{each_flat_map, each_number, newest_is, root_sound}
use Rattle.search_tree.specs.Begun.{Begun, newest, number, pending, stub}
use Rattle.search_tree.specs.May.{IsSlot, IsThere, MayDo}
use Rattle.search_tree.specs.Outset.{MayBegin}
use Rattle.search_tree.specs.PartBounds.{cell_bounds, link, part_bounds}
use Rattle.search_tree.specs.Partial.{Partial, Row, begin, cells, held_at, held_by, no_row, nobody, row}
use Rattle.search_tree.specs.PartialBounds.{begun_bounds, last_stop, root_bounds, token_bounds}
use Rattle.search_tree.specs.Parts.{gap_cell, grown_by, joined_cell}
use Rattle.search_tree.specs.Sound.{IsSound}
use Rattle.search_tree.specs.declared.held.Cell.{Cell}
use Rattle.search_tree.specs.declared.held.Held.{Held}
use Rattle.search_tree.specs.declared.part.Part.{Part}
use Rattle.search_tree.specs.declared.part.Part.TheVariants.{Deferred, Finished, Followed, Inserted, Joined, MetGoal, Supported}

pub fit_apart : (c x y : ℕ) (r : Range) → x < c → y < c → IsRange (pos 0) r → AllByRecursion (IsFit c) (apart x y r)
fit_apart c x y r below under is = (
  record { from = under; to = below; least = omega (arith, ints, is.0, is.1, is.2); most = is.2 },
  (record { from = below; to = under; least = omega (arith, ints, is.1, is.2); most = omega (arith, ints, is.0) }, tt),
)

pub fit_together : (c x y : ℕ) → x < c → y < c → AllByRecursion (IsFit c) (apart x y (range (pos 0) (pos 0)))
fit_together c x y below under = fit_apart c x y (range (pos 0) (pos 0)) below under (omega (arith, ints), omega (arith, ints), omega (arith, ints))

pub fit_relation : (c x x' y y' : ℕ) (r : Relation) → x < c → x' < c → y < c → y' < c → HasRanges r → AllByRecursion (IsFit c) (relation_bounds r x x' y y')
fit_relation c x x' y y' (Before r) a b d e h = fit_apart c y x' r d b h
fit_relation c x x' y y' (After r) a b d e h = fit_apart c x y' r a e h
fit_relation c x x' y y' MeetsStart a b d e h = fit_together c y x' d b
fit_relation c x x' y y' MetBy a b d e h = fit_together c x y' a e
fit_relation c x x' y y' (Starts r) a b d e h = fit_apart c y x r d a h
fit_relation c x x' y y' (Ends r) a b d e h = fit_apart c y' x' r e b h
fit_relation c x x' y y' Equals a b d e h = let p = fit_together c y x d a in let q = fit_together c y' x' e b in (p.0, (p.1.0, (q.0, (q.1.0, tt))))
fit_relation c x x' y y' (Encloses r t) a b d e h = let p = fit_apart c y x r d a h.0 in let q = fit_apart c x' y' t b e h.1 in (p.0, (p.1.0, (q.0, (q.1.0, tt))))
fit_relation c x x' y y' (ContainedBy r t) a b d e h = let p = fit_apart c x y r a d h.0 in let q = fit_apart c y' x' t e b h.1 in (p.0, (p.1.0, (q.0, (q.1.0, tt))))

on_some_each : {X : Type 0} (P : Bound → Type 0) (o : Option X) (f : X → List Bound) → ((x : X) → o ≡ Some x → AllByRecursion P (f x)) → AllByRecursion P (on_some o f)
on_some_each P None f h = tt
on_some_each P (Some x) f h = h x refl

fit_wider : (c d : ℕ) → c ≤ d → (bs : List Bound) → AllByRecursion (IsFit c) bs → AllByRecursion (IsFit d) bs
fit_wider c d less bs h = each_weaker (IsFit c) (IsFit d) (λ x f. record { from = omega (arith, f.from); to = omega (arith, f.to); least = f.least; most = f.most }) bs h

module _ (m : Mission) (mission : IsMission m) (b : Begun) (since : InRange whole b.since) where
  -- the bounds of a new token
  pub token_fit : (n : ℕ) (x : Held) → count b.base < n → x.start < n → x.stop < n → AllByRecursion (IsFit n) (token_bounds m b x)
  token_fit n x above start stop =
      let lasting = on_some (value_of m x.kind) (λ (v : Value). apart x.stop x.start v.lasts) in
      let some : 0 < n = omega arith in
      let all : IsRange (pos 0) whole = (omega (arith, ints), omega (arith, ints), omega (arith, ints)) in
      let mark = newest_is b in
      let low = since.0 in
      let high = since.1 in
      each_both (IsFit n) (apart x.start 0 whole ++ apart x.stop 0 whole ++ lasting) (bound (newest b) x.start (negsuc 0) ∷ bound x.stop 0 (neg_ℤ b.since) ∷ [])
      (each_both (IsFit n) (apart x.start 0 whole ++ apart x.stop 0 whole) lasting
      (each_both (IsFit n) (apart x.start 0 whole) (apart x.stop 0 whole) (fit_apart n x.start 0 whole start some all) (fit_apart n x.stop 0 whole stop some all))
      (on_some_each (IsFit n) (value_of m x.kind) (λ (v : Value). apart x.stop x.start v.lasts) (λ v is.
      let lasts = (value_is m x.kind v mission is).1.lasts in
      fit_apart n x.stop x.start v.lasts stop start (omega (arith, ints, lasts.0), lasts.1, lasts.2)))) (
        record { from = omega arith; to = start; least = omega (arith, ints); most = omega (arith, ints) },
        (record { from = stop; to = some; least = omega (arith, ints); most = omega (arith, ints) }, tt),
      )

  module _ (p : Partial) (sound : IsSound m b p) where
    pub held_fit : (v i : ℕ) (r : Row) (c : Cell) → slice_get p.rows v ≡ Some r → slice_get (cells r) i ≡ Some c → ((held_at p v i).start < p.points) × ((held_at p v i).stop < p.points)
    held_fit v i r c is here =
        let e = held_is p v i r c is here in
        let f = sound.fresh v c.held (record { row = r; is_row = is; place = i; cell = c; here = here; held = refl }) in
        let start = ap (λ (x : Held). x.start) e in
        let stop = ap (λ (x : Held). x.stop) e in
        (omega (arith, f.0), omega (arith, f.1))

    there_fit : (t : TokenRef) → IsThere p t → ((held_by p t).start < p.points) × ((held_by p t).stop < p.points)
    there_fit t h = held_fit t.sv.0 t.place h.row h.cell h.is_row h.here

    -- a new token with the one behind it
    cell_fit : (n v i : ℕ) (r : Row) (c : Cell) → slice_get p.rows v ≡ Some r → IsSlot i r → p.points ≤ n → c.held.start < n → c.held.stop < n → AllByRecursion (IsFit n) (cell_bounds m b (held_at p v i).stop c (slice_get (cells (row p v)) (suc i)))
    cell_fit n v i r c is slot more start stop =
        let above = sound.above in
        let place = slot.place in
        let d = get_or (cells r) i (given_cell nobody) in
        let here : slice_get (cells r) i ≡ Some d = slice_get-get_or (cells r) i (given_cell nobody) (omega arith) in
        let before = (held_fit v i r d is here).1 in
        let same : row p v ≡ r = get_or_from_slice_get p.rows v r no_row is in
        let behind = on_some (slice_get (cells (row p v)) (suc i)) (λ (d : Cell). bound d.held.start c.held.stop (pos 0) ∷ []) in
        each_both (IsFit n) (token_bounds m b c.held ++ link (held_at p v i).stop c) behind
        (each_both (IsFit n) (token_bounds m b c.held) (link (held_at p v i).stop c) (token_fit n c.held (omega arith) start stop)
        (elim (cases_Bool c.joined) [
          | inl shut ↦ rw shut (fit_together n c.held.start (held_at p v i).stop start (omega arith))
          | inr gap ↦ rw gap (record { from = start; to = omega arith; least = omega (arith, ints); most = omega (arith, ints) }, tt)
        ]))
        (on_some_each (IsFit n) (slice_get (cells (row p v)) (suc i)) (λ (d : Cell). bound d.held.start c.held.stop (pos 0) ∷ []) (λ d at.
        let f = sound.fresh v d.held (record { row = r; is_row = is; place = suc i; cell = d; here = ap (λ q. slice_get (cells q) (suc i)) (sym same) ∙ at; held = refl }) in
        (record { from = omega (arith, f.0); to = stop; least = omega (arith, ints); most = omega (arith, ints) }, tt)))

    last_fit : (v : ℕ) (r : Row) → slice_get p.rows v ≡ Some r → (before : ℕ) (front cs : List Cell) → cells r ≡ front ++ cs → before < p.points → last_stop before cs < p.points
    last_fit v r is before front [] e below = below
    last_fit v r is before front (c ∷ cs) e below =
        let here : slice_get (cells r) (length front) ≡ Some c = ap (λ l. slice_get l (length front)) e ∙ slice_get-middle front c cs in
        let f = sound.fresh v c.held (record { row = r; is_row = is; place = length front; cell = c; here = here; held = refl }) in
        last_fit v r is c.held.stop (front ++ c ∷ []) cs (e ∙ sym (append_assoc front (c ∷ []) cs)) (omega (arith, f.1))

    -- the bounds that a part adds
    pub part_fit : (x : Part) → MayDo m b p x → AllByRecursion (IsFit (p.points + grown_by x)) (part_bounds m b p x)
    part_fit (Inserted v i value) h = cell_fit (p.points + 2) v.0 i h.row (gap_cell p v.0 value.0) h.is_row h.slot (omega arith) (omega arith) (omega arith)
    part_fit (Followed v i value) h =
        let r = h.insert.row in
        let place = h.insert.slot.place in
        let here = slice_get-get_or (cells r) i (given_cell nobody) (omega arith) in
        let before = (held_fit v.0 i r (get_or (cells r) i (given_cell nobody)) h.insert.is_row here).1 in
        cell_fit (p.points + 1) v.0 i r (joined_cell p v.0 i value.0) h.insert.is_row h.insert.slot (omega arith) (omega arith) (omega arith)
    part_fit (Joined v i) h =
        let d = some_before (cells h.row) i h.cell h.here in
        let x = (held_fit v.0 (suc i) h.row h.cell h.is_row h.here).0 in
        let y = (held_fit v.0 i h.row d.0 h.is_row d.1).1 in
        fit_together (p.points + 0) (held_at p v.0 (suc i)).start (held_at p v.0 i).stop (omega arith) (omega arith)
    part_fit (Finished v) h =
        let above = sound.above in
        let mark = newest_is b in
        let same : row p v.0 ≡ h.row = get_or_from_slice_get p.rows v.0 h.row no_row h.is_row in
        let last : last_stop 0 (cells (row p v.0)) < p.points = subst (λ q. last_stop 0 (cells q) < p.points) (sym same) (last_fit v.0 h.row h.is_row 0 [] (cells h.row) refl (omega arith)) in
        (record { from = omega arith; to = omega arith; least = omega (arith, ints); most = omega (arith, ints) }, tt)
    part_fit (Supported t i by) h =
        let x = there_fit t h.token in
        let y = there_fit by h.server in
        let n = p.points + 0 in
        on_some_each (IsFit n) (slice_get (needs_of m (held_by p t).kind) i) _ (λ need is.
        on_some_each (IsFit n) (choice_by need (held_by p by).kind) _ (λ c found.
        fit_relation n (held_by p t).start (held_by p t).stop (held_by p by).start (held_by p by).stop c.relation (omega (arith, x.0)) (omega (arith, x.1)) (omega (arith, y.0)) (omega (arith, y.1)) (choice_ranges m (held_by p t).kind (held_by p by).kind i need c mission is found)))
    part_fit (MetGoal g by) h =
        let y = there_fit by h.server in
        let above = sound.above in
        let n = p.points + 0 in
        on_some_each (IsFit n) (slice_get (goals_of m (number b)) g) _ (λ goal is.
        let rules = goal_is g goal is in
        each_both (IsFit n) (apart (held_by p by).start 0 goal.start) (apart (held_by p by).stop 0 goal.stop) (fit_apart n (held_by p by).start 0 goal.start (omega (arith, y.0)) (omega arith) rules.start) (fit_apart n (held_by p by).stop 0 goal.stop (omega (arith, y.1)) (omega arith) rules.stop))
      where
        goal_is : (g : ℕ) (goal : Goal) → slice_get (goals_of m (number b)) g ≡ Some goal → IsGoal m.vars goal
        goal_is g goal is = by_case (slice_get m.horizons (number b - 1)) refl is
          where
            by_case : (o : Option Horizon) → slice_get m.horizons (number b - 1) ≡ o → slice_get (on_some o (λ (h : Horizon). h.goals)) g ≡ Some goal → IsGoal m.vars goal
            by_case None e is = absurd (cc)
            by_case (Some h) e is = each_at (IsGoal m.vars) h.goals g goal (horizon_is m (number b - 1) h mission e).goals is
    part_fit (Deferred t i) h = tt

-- where the search begins
module _ (m : Mission) (b : Begun) (may : MayBegin m b) where
  abbrev pub root_size : ℕ
  root_size = (begin m b).points

  above : count b.base < root_size
  above = let e = stub_count b in omega arith

  since_there : InRange whole b.since
  since_there = may.fixed.since

  marks_fit : AllByRecursion (IsFit root_size) (horizon_bounds m (stub b) (number b))
  marks_fit = on_some_each (IsFit root_size) (slice_get m.horizons (number b - 1)) (λ (g : Horizon). exactly (newest b) g.tick) (λ g is.
      let tick = (horizon_is m (number b - 1) g may.checked.mission is).tick in
      let mark = newest_is b in
      let more = above in
      fit_apart root_size (newest b) 0 (range g.tick g.tick) (omega arith) (omega arith) (omega (arith, ints, tick.0), omega (arith, ints), omega (arith, ints, tick.1)))

  point_fit : AllByRecursion (IsFit root_size) (point_bounds (count b.base) 1)
  point_fit = let more = above in each_both (IsFit root_size) (apart (count b.base) 0 whole) [] (fit_apart root_size (count b.base) 0 whole more (omega arith) (omega (arith, ints), omega (arith, ints), omega (arith, ints))) tt

  fixed_fit : (front ts : List Time) → EachAfter (KeepsFixedAt b.base (pending b)) front ts → AllByRecursion (IsFit root_size) (fixed_bounds ts)
  fixed_fit front [] h = tt
  fixed_fit front (t ∷ ts) h =
      let more = above in
      let low = h.0.at.0 in
      let high = h.0.at.1 in
      let last = since_there.1 in
      let below = h.0.below in
      each_both (IsFit root_size) (exactly t.point.0 t.at) (fixed_bounds ts)
      (fit_apart root_size t.point.0 0 (range t.at t.at) (omega arith) (omega arith) (omega (arith, ints), omega (arith, ints), omega (arith, ints)))
      (fixed_fit (front ++ t ∷ []) ts h.1)

  since_fit : AllByRecursion (IsFit root_size) (since_bounds (stub b) b.since)
  since_fit = each_flat_map (IsFit root_size) (λ x. cond (is_fixed (stub b) x) [] (bound x 0 (neg_ℤ b.since) ∷ [])) (numbers_from 1 (count (stub b) - 1)) (each_number (λ x. AllByRecursion (IsFit root_size) (cond (is_fixed (stub b) x) [] (bound x 0 (neg_ℤ b.since) ∷ []))) 1 (count (stub b) - 1) each)
    where
      each : (x : ℕ) → 1 ≤ x → x < 1 + (count (stub b) - 1) → AllByRecursion (IsFit root_size) (cond (is_fixed (stub b) x) [] (bound x 0 (neg_ℤ b.since) ∷ []))
      each x low high = elim (cases_Bool (is_fixed (stub b) x)) [
        | inl set ↦ rw set tt
        | inr free ↦
            let more = above in
            let least = since_there.0 in
            let last = since_there.1 in
            rw free (record { from = omega arith; to = omega arith; least = omega (arith, ints); most = omega (arith, ints) }, tt)
      ]

  rows_fit : AllByRecursion (IsFit root_size) (flat_map (λ (r : Row). flat_map (λ (c : Cell). token_bounds m b c.held) r.added) (begin m b).rows)
  rows_fit = each_flat_map (IsFit root_size) (λ (r : Row). flat_map (λ (c : Cell). token_bounds m b c.held) r.added) (begin m b).rows
      (each_from_at (λ r. AllByRecursion (IsFit root_size) (flat_map (λ (c : Cell). token_bounds m b c.held) r.added)) (begin m b).rows (λ v r is.
      each_flat_map (IsFit root_size) (λ (c : Cell). token_bounds m b c.held) r.added
      (each_from_at (λ (c : Cell). AllByRecursion (IsFit root_size) (token_bounds m b c.held)) r.added (λ i c here.
      let at : slice_get (cells r) (length (map given_cell r.given) + i) ≡ Some c = slice_get-append_right (map given_cell r.given) r.added i ∙ here in
      let f = (root_sound m b may).fresh v c.held (record { row = r; is_row = is; place = length (map given_cell r.given) + i; cell = c; here = at; held = refl }) in
      token_fit m may.checked.mission b since_there root_size c.held above f.0 f.1))))

  pub root_fit : AllByRecursion (IsFit root_size) (root_bounds m b (begin m b))
  root_fit =
      let plan : AllByRecursion (IsFit root_size) (bounds_of m b.base) = fit_wider (count b.base) root_size (let more = above in omega arith) (bounds_of m b.base) (bounds_fit m b.base may.checked.mission may.checked.rules) in
      each_both (IsFit root_size) (begun_bounds m b) (flat_map (λ (r : Row). flat_map (λ (c : Cell). token_bounds m b c.held) r.added) (begin m b).rows)
      (each_both (IsFit root_size) _ _ (each_both (IsFit root_size) _ _ (each_both (IsFit root_size) _ _ (each_both (IsFit root_size) _ _ plan marks_fit) point_fit) (fixed_fit [] b.fixed may.fixed.each)) since_fit)
      rows_fit
