-- What a Db knows where a part may be done.
use Rattle.std.proofs.Common.{◌≡◌, ℕ, ℤ, zero, suc, ◌+◌, ◌<◌, ◌≤◌, Bool, true, false, cond, List, [], ◌∷◌, ◌++◌, All, Option, None, Some, length, map, get_or, slice_get, pos, neg_ℤ, refl, sym, ap, ◌∙◌, subst, arith}
use Rattle.std.proofs.lemmas.Int.{ints}
use Rattle.std.proofs.lemmas.Option.{get_or_from_slice_get, slice_get-get_or, slice_get_within}
use Rattle.std.specs.List.{AllByRecursion}
use Rattle.std.specs.Prelude.{◌&&◌, ◌+ℤ◌, ◌-ℤ◌, ◌≤ℤ◌, int_le, int_lt}
use Rattle.hs_base.specs.Bounds.{on_some}
use Rattle.hs_base.specs.Missions.{IsMission}
use Rattle.hs_base.specs.Points.{value_of}
use Rattle.hs_base.specs.Ranges.{InRange, IsRange, whole}
use Rattle.hs_base.specs.Schedule.{bound}
use Rattle.hs_base.specs.declared.limits.TheConstants.{LAST}
use Rattle.hs_base.specs.declared.mission.Mission.{Mission}
use Rattle.hs_base.specs.declared.mission.Value.{Value}
use Rattle.hs_base.specs.declared.net.Bound.{Bound}
use Rattle.hs_base.specs.declared.range.Range.{Range}
use Rattle.base_laws.proofs.ListLemmas.{each_both}
use Rattle.plan_laws.specs.Fit.{IsFit}
use Rattle.search_tree.proofs.CellLemmas.{given_cell, held_is, length-map', slice_get-map_some}
use Rattle.search_tree.proofs.RangeLemmas.{held_fit, part_fit}
use Rattle.search_tree.specs.Begun.{Begun}
use Rattle.search_tree.specs.May.{IsSlot, MayDo}
use Rattle.search_tree.specs.Outset.{MayBegin}
use Rattle.search_tree.specs.PartBounds.{part_bounds}
use Rattle.search_tree.specs.Partial.{Partial, Row, at, begin, cells, held_at, no_row, nobody, row}
use Rattle.search_tree.specs.Parts.{gap_cell, grown_by, joined_cell}
use Rattle.search_tree.specs.declared.held.Cell.{Cell}
use Rattle.search_tree.specs.declared.held.Held.{Held}
use Rattle.search_tree.specs.declared.part.Part.{Part}
use Rattle.search_tree.specs.declared.part.Part.TheVariants.{Deferred, Finished, Followed, Inserted, Joined, MetGoal, Supported}
use Rattle.stn_distance.specs.Ranges.{IsInRange}
use Rattle.stn_trail.specs.Held.{points_of, Held as Trailed}
use Rattle.timeline_db.proofs.DbLemmas.{points_shown}
use Rattle.search_laws.proofs.GoodLemmas.{good_all, good_points, good_root}
use Rattle.timeline_db.proofs.KeptLemmas.{lasts_range}
use Rattle.timeline_db.proofs.NarrowLemmas.{narrow_each}
use Rattle.timeline_db.proofs.PictureLemmas.{cells-row}
use Rattle.timeline_db.proofs.StepLemmas.{line_shown, shown_of}
use Rattle.timeline_db.proofs.TimeLemmas.{tick_whole}
use Rattle.timeline_db.specs.Boards.{HasToken, line_at, token_of}
use Rattle.timeline_db.specs.Databases.{IsDb, parts_of}
use Rattle.search_laws.specs.Good.{IsGood}
use Rattle.timeline_db.specs.Kept.{from_since, kept_bounds, kept_cell, lasting, lasting_within, start_from, tick_of, until_last}
use Rattle.timeline_db.specs.Lines.{cell_of, nothing_held, row_of}
use Rattle.timeline_db.specs.declared.board.Board.{Board}
use Rattle.timeline_db.specs.declared.course.Step.{Step}

on_each : {X : Type 0} (P : Bound → Type 0) (o : Option X) (f : X → List Bound) → ((x : X) → o ≡ Some x → AllByRecursion P (f x)) → AllByRecursion P (on_some o f)
on_each P None f h = tt
on_each P (Some x) f h = h x refl

lasting_fit : (n : ℕ) (x : Held) (r : Range) → x.start < n → x.stop < n → IsRange (pos 1) r → AllByRecursion (IsFit n) (lasting x r)
lasting_fit n x r start stop is = (record { from = stop; to = start; least = omega (arith, ints, is.0, is.1, is.2); most = omega (arith, ints, is.0, is.1, is.2) }, by (int_lt r.high LAST))
  where
    by : (b : Bool) → AllByRecursion (IsFit n) (cond b (bound x.start x.stop r.high ∷ []) [])
    by true = (record { from = start; to = stop; least = omega (arith, ints, is.0, is.1, is.2); most = is.2 }, tt)
    by false = tt

unless_fit : (n : ℕ) (b : Bool) (d : Bound) → IsFit n d → AllByRecursion (IsFit n) (cond b [] (d ∷ []))
unless_fit n true d h = tt
unless_fit n false d h = (h, tt)

within_fit : (n : ℕ) (tick since : ℤ) (x : Held) (r : Range) → 0 < n → x.start < n → x.stop < n → InRange whole since → IsRange (pos 1) r → AllByRecursion (IsFit n) (lasting_within tick since x r)
within_fit n tick since x r some start stop from is =
    let least = from.0 in
    let most = from.1 in
    each_both (IsFit n) (lasting x r ++ until_last tick x r) (from_since since x r)
    (each_both (IsFit n) (lasting x r) (until_last tick x r) (lasting_fit n x r start stop is)
    (unless_fit n (int_lt r.high LAST && int_le (tick -ℤ pos 1 +ℤ r.high) LAST) (bound 0 x.stop LAST) (record { from = some; to = stop; least = omega (arith, ints); most = omega (arith, ints) })))
    (unless_fit n (int_le since r.low) (bound x.stop 0 (neg_ℤ since)) (record { from = stop; to = some; least = omega (arith, ints); most = omega (arith, ints) }))

cell_fit : (n : ℕ) (m : Mission) (tick since : ℤ) (x : ℕ) (c : Cell) (o : Option ℕ) → IsMission m → 0 < n → c.held.start < n → c.held.stop < n → x < n → ((y : ℕ) → o ≡ Some y → y < n) → pos 1 ≤ℤ tick → tick ≤ℤ pos 1000000 → InRange whole since
    → AllByRecursion (IsFit n) (kept_cell m tick since x c o)
cell_fit n m tick since x c o mission some start stop before next low high from =
    let first = bound 0 c.held.start (tick -ℤ pos 1) ∷ [] in
    let link = cond c.joined [] (bound c.held.start x (pos 0) ∷ []) in
    let lengths = on_some (value_of m c.held.kind) (λ (v : Value). lasting_within tick since c.held v.lasts) in
    each_both (IsFit n) (first ++ link ++ lengths) (on_some o (λ y. bound y c.held.stop (pos 0) ∷ []))
    (each_both (IsFit n) (first ++ link) lengths
    (each_both (IsFit n) first link (record { from = some; to = start; least = omega (arith, ints); most = omega (arith, ints) }, tt)
    (unless_fit n c.joined (bound c.held.start x (pos 0)) (record { from = start; to = before; least = omega (arith, ints); most = omega (arith, ints) })))
    (on_each (IsFit n) (value_of m c.held.kind) (λ (v : Value). lasting_within tick since c.held v.lasts) (λ v is. within_fit n tick since c.held v.lasts some start stop from (lasts_range m c.held.kind v mission is))))
    (on_each (IsFit n) o (λ y. bound y c.held.stop (pos 0) ∷ []) (λ y is. (record { from = next y is; to = stop; least = omega (arith, ints); most = omega (arith, ints) }, tt)))

-- the bounds that a part puts on the trail are between the points that are there with it
module _ (m : Mission) (b : Begun) (may : MayBegin m b) (p : Partial) (good : IsGood m b p) where
  next_fit : (n v i : ℕ) (r : Row) → slice_get p.rows v ≡ Some r → p.points ≤ n → (y : ℕ) → start_from (cells (row p v)) (suc i) ≡ Some y → y < n
  next_fit n v i r is more y e =
      let same : row p v ≡ r = get_or_from_slice_get p.rows v r no_row is in
      let x = some_start (cells r) (suc i) y (ap (λ (q : Row). start_from (cells q) (suc i)) (sym same) ∙ e) in
      let f = (good.sound.fresh v (x.0).held (record { row = r; is_row = is; place = suc i; cell = x.0; here = x.1; held = refl })).0 in
      let g = x.2 in
      omega arith
    where
      some_start : (cs : List Cell) (k y : ℕ) → start_from cs k ≡ Some y → (c : Cell) × (slice_get cs k ≡ Some c) × (c.held.start ≡ y)
      some_start [] k y e = absurd (cc)
      some_start (c ∷ cs) zero y e = (c, refl, cc)
      some_start (c ∷ cs) (suc k) y e = some_start cs k y e

  before_fit : (v i : ℕ) (r : Row) → slice_get p.rows v ≡ Some r → IsSlot i r → (held_at p v i).stop < p.points
  before_fit v i r is slot =
      let place = slot.place in
      (held_fit m may.checked.mission b may.fixed.since p good.sound v i r (get_or (cells r) i (given_cell nobody)) is (slice_get-get_or (cells r) i (given_cell nobody) (omega arith))).1

  pub kept_fit : (x : Part) → MayDo m b p x → AllByRecursion (IsFit (p.points + grown_by x)) (kept_bounds m b p x)
  kept_fit (Inserted v i value) h =
      let tick = tick_whole m b may in
      let above = good.sound.above in
      let before = before_fit v.0 i h.row h.is_row h.slot in
      cell_fit (p.points + 2) m (tick_of m b) b.since (held_at p v.0 i).stop (gap_cell p v.0 value.0) (start_from (cells (row p v.0)) (suc i)) may.checked.mission (omega arith) (omega arith) (omega arith) (omega arith) (next_fit (p.points + 2) v.0 i h.row h.is_row (omega arith)) tick.0 tick.1 may.fixed.since
  kept_fit (Followed v i value) h =
      let tick = tick_whole m b may in
      let above = good.sound.above in
      let before = before_fit v.0 i h.insert.row h.insert.is_row h.insert.slot in
      cell_fit (p.points + 1) m (tick_of m b) b.since (held_at p v.0 i).stop (joined_cell p v.0 i value.0) (start_from (cells (row p v.0)) (suc i)) may.checked.mission (omega arith) (omega arith) (omega arith) (omega arith) (next_fit (p.points + 1) v.0 i h.insert.row h.insert.is_row (omega arith)) tick.0 tick.1 may.fixed.since
  kept_fit (Joined v i) h = part_fit m may.checked.mission b may.fixed.since p good.sound (Joined v i) h
  kept_fit (Finished v) h =
      let tick = tick_whole m b may in
      let low = tick.0 in
      let high = tick.1 in
      let f = (part_fit m may.checked.mission b may.fixed.since p good.sound (Finished v) h).0 in
      (record { from = f.from; to = omega (arith, f.from); least = omega (arith, ints); most = omega (arith, ints) }, tt)
  kept_fit (Supported t i by) h = narrow_each (IsFit (p.points + 0)) (part_bounds m b p (Supported t i by)) (part_fit m may.checked.mission b may.fixed.since p good.sound (Supported t i by) h)
  kept_fit (MetGoal g by) h = narrow_each (IsFit (p.points + 0)) (part_bounds m b p (MetGoal g by)) (part_fit m may.checked.mission b may.fixed.since p good.sound (MetGoal g by) h)
  kept_fit (Deferred t i) h = tt

all_fit : (n : ℕ) (bs : List Bound) → AllByRecursion (IsFit n) bs → All (IsInRange n) bs
all_fit n [] h = λ k d l. absurd (omega arith)
all_fit n (x ∷ bs) h = λ k d l. at (all_fit n bs h.1) k d l
  where
    at : All (IsInRange n) bs → (k : ℕ) (d : Bound) → k < suc (length bs) → IsInRange n (get_or (x ∷ bs) k d)
    at rest zero d l = record { from_below = h.0.from; to_below = h.0.to; low = h.0.least; high = h.0.most }
    at rest (suc k) d l = rest k d (omega arith)

module _ (m : Mission) (b : Begun) (tick : ℤ) (board : Board) (steps : List Step) (trail : Trailed) (d : IsDb m b tick board steps trail) where
  abbrev pub p : Partial
  p = shown_of m b steps

  pub good : IsGood m b p
  good = good_all m b (begin m b) (parts_of steps) d.allowed (good_root m b d.begins)

  pub points : points_of trail ≡ p.points
  points = points_shown m b steps trail d.course

  pub few : p.points ≤ 131072
  few = good_points m b p d.begins good

  -- the bounds that were made are in range
  pub range : (x : Part) (made : List Bound) → MayDo m b p x → made ≡ kept_bounds m b p x → All (IsInRange (points_of trail + grown_by x)) made
  range x made may is = subst (λ (l : List Bound). All (IsInRange (points_of trail + grown_by x)) l) (sym is) (subst (λ (n : ℕ). All (IsInRange (n + grown_by x)) (kept_bounds m b p x)) (sym points) (all_fit (p.points + grown_by x) (kept_bounds m b p x) (kept_fit m b d.begins p good x may)))

  -- the rows that are kept
  pub line : (v : ℕ) (r : Row) → slice_get p.rows v ≡ Some r → (slice_get board.lines.items v ≡ Some (line_at board v)) × (row_of (line_at board v) ≡ r)
  line v r is = line_shown board v r (ap (λ (q : Partial). slice_get q.rows v) d.shows ∙ is)

  pub row_there : (v : ℕ) (r : Row) → slice_get p.rows v ≡ Some r → v < length board.lines.items
  row_there v r is = slice_get_within board.lines.items v (line_at board v) (line v r is).0

  -- the cells of a row are its tokens
  pub cells_are : (v : ℕ) (r : Row) → slice_get p.rows v ≡ Some r → cells r ≡ map cell_of (line_at board v).tokens
  cells_are v r is = let l = line v r is in ap cells (sym l.1) ∙ cells-row (line_at board v) (d.tracked.line v (line_at board v) l.0).joined

  pub size_is : (v : ℕ) (r : Row) → slice_get p.rows v ≡ Some r → length (cells r) ≡ length (line_at board v).tokens
  size_is v r is = ap length (cells_are v r is) ∙ length-map' cell_of (line_at board v).tokens

  pub cell_is : (v i : ℕ) (r : Row) (c : Cell) → slice_get p.rows v ≡ Some r → slice_get (cells r) i ≡ Some c → HasToken board (at v i) × (cell_of (token_of board (at v i)) ≡ c)
  cell_is v i r c is here =
      let x = slice_get-map_some cell_of (line_at board v).tokens i c (ap (λ (cs : List Cell). slice_get cs i) (sym (cells_are v r is)) ∙ here) in
      let e : token_of board (at v i) ≡ x.0 = get_or_from_slice_get (line_at board v).tokens i x.0 nothing_held x.1 in
      (record { row = row_there v r is; place = slice_get_within (line_at board v).tokens i x.0 x.1 }, ap cell_of e ∙ x.2)

  -- the token at a place
  pub held_there : (v i : ℕ) (r : Row) (c : Cell) → slice_get p.rows v ≡ Some r → slice_get (cells r) i ≡ Some c → held_at p v i ≡ (token_of board (at v i)).held
  held_there v i r c is here = held_is p v i r c is here ∙ ap (λ (x : Cell). x.held) (sym (cell_is v i r c is here).1)
