-- What the calls of a Db know before they do a part, and what they tell after it.
use Rattle.std.proofs.Common.{◌≡◌, ℕ, ℤ, zero, suc, ◌+◌, ◌-◌, ◌<◌, ◌≤◌, true, List, [], ◌∷◌, ◌++◌, All, Option, Some, length, map, get_or, slice_get, pos, neg_ℤ, refl, sym, ap, ◌∙◌, subst, arith}
use Rattle.std.proofs.lemmas.Int.{ints}
use Rattle.std.proofs.lemmas.Option.{get_or_from_slice_get, slice_get-get_or, slice_get_within}
use Rattle.std.specs.Prelude.{◌+ℤ◌, option_map, unwrap_or}
use Rattle.hs_base.specs.Bounds.{together}
use Rattle.hs_base.specs.Needs.{needs_of}
use Rattle.hs_base.specs.Ranges.{InRange, whole}
use Rattle.hs_base.specs.Schedule.{HasNoSchedule, bound}
use Rattle.hs_base.specs.declared.ids.SvId.{SvId}
use Rattle.hs_base.specs.declared.ids.ValId.{ValId}
use Rattle.hs_base.specs.declared.mission.Mission.{Mission}
use Rattle.hs_base.specs.declared.net.Bound.{Bound}
use Rattle.search_tree.proofs.CellLemmas.{given_cell, length-map', row_at}
use Rattle.search_tree.proofs.SizeLemmas.{few_points}
use Rattle.search_tree.specs.Begun.{Begun}
use Rattle.search_tree.specs.May.{IsSlot, MayDo}
use Rattle.search_tree.specs.Partial.{Partial, Row, at, cells, held_at, no_row, nobody, row}
use Rattle.search_tree.specs.PartialBounds.{HasSchedule, last_stop}
use Rattle.search_tree.specs.Parts.{do_part, gap_cell, grown_by, joined_cell}
use Rattle.search_tree.specs.Resolvers.{has_room}
use Rattle.search_tree.specs.declared.held.Cell.{Cell}
use Rattle.search_tree.specs.declared.held.Held.{Held}
use Rattle.search_tree.specs.declared.part.Part.{Part}
use Rattle.search_tree.specs.declared.part.Part.TheVariants.{Deferred, Finished, Followed, Inserted, Joined, MetGoal, Supported}
use Rattle.stn_distance.specs.Ranges.{IsInRange}
use Rattle.stn_trail.specs.Held.{bounds_of, points_of, Held as Trailed}
use Rattle.timeline_db.proofs.CourseLemmas.{shut_more}
use Rattle.timeline_db.proofs.DbLemmas.{shut_shown}
use Rattle.timeline_db.proofs.DraftLemmas.{db_finished, db_followed, db_inserted, db_joined, db_same, slot_there}
use Rattle.timeline_db.proofs.FactLemmas.{cell_is, cells_are, few, good, held_there, points, range, row_there, size_is}
use Rattle.timeline_db.proofs.StepLemmas.{shown_of}
use Rattle.timeline_db.proofs.TimeLemmas.{tick_whole}
use Rattle.timeline_db.proofs.TotalLemmas.{all_few, row_few}
use Rattle.timeline_db.specs.Boards.{ChangesRow, HasPlace, HasToken, Puts, line_at, token_of}
use Rattle.timeline_db.specs.Courses.{Gains, parts_with}
use Rattle.timeline_db.specs.Databases.{IsDb, parts_of}
use Rattle.timeline_db.specs.Drafts.{KeepsDraft, Takes}
use Rattle.timeline_db.specs.Kept.{kept_bounds, kept_cell, start_from, tick_of}
use Rattle.timeline_db.specs.Lines.{cell_of, end_of, row_of, with_joined}
use Rattle.timeline_db.specs.Plannings.{MayDoNow, Planning, WouldShut, partial_of}
use Rattle.timeline_db.specs.Putting.{IsPutting, start_behind}
use Rattle.timeline_db.specs.Shutting.{IfCycle}
use Rattle.timeline_db.specs.declared.board.Board.{Board}
use Rattle.timeline_db.specs.declared.course.Course.{Course}
use Rattle.timeline_db.specs.declared.course.Step.{Step}
use Rattle.timeline_db.specs.declared.db.Db.TheInside.{Inside}
use Rattle.timeline_db.specs.declared.draft.Draft.{Draft}
use Rattle.timeline_db.specs.declared.shut.Shut.{Shut}
use Rattle.timeline_db.specs.declared.token.Token.{Token}

-- the end of a row's last cell
last_is : (y : ℕ) (ts : List Token) → 0 < length ts → (x : ℕ) → last_stop y (map cell_of ts) ≡ unwrap_or (option_map (λ (t : Token). t.held.stop) (slice_get ts (length ts - 1))) x
last_is y [] some x = absurd (omega arith)
last_is y (t ∷ []) some x = refl
last_is y (t ∷ u ∷ ts) some x =
    let e : length (t ∷ u ∷ ts) - 1 ≡ suc (length (u ∷ ts) - 1) = omega arith in
    last_is t.held.stop (u ∷ ts) (omega arith) x ∙ ap (λ (n : ℕ). unwrap_or (option_map (λ (t : Token). t.held.stop) (slice_get (t ∷ u ∷ ts) n)) x) (sym e)

starts_same : (ts : List Token) (k : ℕ) → start_from (map cell_of ts) k ≡ option_map (λ (t : Token). t.held.start) (slice_get ts k)
starts_same [] k = refl
starts_same (t ∷ ts) zero = refl
starts_same (t ∷ ts) (suc k) = starts_same ts k

module _ (m : Mission) (b : Begun) (tick : ℤ) (board : Board) (steps : List Step) (trail : Trailed) (d : IsDb m b tick board steps trail) where
  abbrev p : Partial
  p = shown_of m b steps

  -- the trail has a point, and room for no more than 131,072
  pub trail_points : (0 < points_of trail) × (points_of trail ≤ 131072)
  trail_points =
      let e = points m b tick board steps trail d in
      let f = few m b tick board steps trail d in
      let above = (good m b tick board steps trail d).sound.above in
      (omega arith, omega arith)

  -- the next horizon is a time
  pub tick_in : InRange whole tick
  tick_in =
      let t = tick_whole m b d.begins in
      let e = d.horizon in
      (omega (arith, ints, t.0), omega (arith, ints, t.1))

  -- what the trail refuses has no schedule
  pub shut_told : (x : Part) (made : List Bound) (e : Shut) → MayDo m b p x → made ≡ kept_bounds m b p x → IfCycle e (HasNoSchedule (bounds_of trail ++ made)) → IfCycle e (HasSchedule m b (do_part p x) → ⊥)
  shut_told x made e may is h =
      shut_more e (HasNoSchedule (bounds_of trail ++ made)) (HasSchedule m b (do_part p x) → ⊥) h
      (λ none. shut_shown m b steps trail x d.begins d.allowed d.course may (subst (λ (l : List Bound). HasNoSchedule (bounds_of trail ++ l)) is none))

  token_in : (v i : ℕ) (r : Row) → slice_get p.rows v ≡ Some r → i < length (cells r) → HasToken board (at v i) × (held_at p v i ≡ (token_of board (at v i)).held)
  token_in v i r is below =
      let c = get_or (cells r) i (given_cell nobody) in
      let here = slice_get-get_or (cells r) i (given_cell nobody) below in
      ((cell_is m b tick board steps trail d v i r c is here).0, held_there m b tick board steps trail d v i r c is here)

  -- where a gap may be closed
  pub record CanJoin (v : SvId) (i : ℕ) : Type 0 where
    pub before : HasToken board (at v.0 i)
    pub after : HasToken board (at v.0 (suc i))
    pub small : suc i < 4294967296
    pub made : together (token_of board (at v.0 (suc i))).held.start (token_of board (at v.0 i)).held.stop ≡ kept_bounds m b p (Joined v i)

  pub can_join : (v : SvId) (i : ℕ) → MayDo m b p (Joined v i) → CanJoin v i
  can_join v i may =
      let inside = slice_get_within (cells may.row) (suc i) may.cell may.here in
      let few = row_few m b p d.begins (good m b tick board steps trail d) v.0 may.row may.is_row in
      let x = token_in v.0 i may.row may.is_row (omega arith) in
      let y = token_in v.0 (suc i) may.row may.is_row inside in
      record {
        before = x.0;
        after = y.0;
        small = omega arith;
        made = ap (λ (h : Held). together h.start (token_of board (at v.0 i)).held.stop) (sym y.1) ∙ ap (λ (h : Held). together (held_at p v.0 (suc i)).start h.stop) (sym x.1);
      }

  -- where a timeline may be finished
  pub record CanFinish (v : SvId) : Type 0 where
    pub row : v.0 < length board.lines.items
    pub some : 0 < length (line_at board v.0).tokens
    pub made : bound (end_of (line_at board v.0).tokens) 0 (neg_ℤ (tick +ℤ pos 1)) ∷ [] ≡ kept_bounds m b p (Finished v)

  pub can_finish : (v : SvId) → MayDo m b p (Finished v) → CanFinish v
  can_finish v may =
      let is = may.is_row in
      let some = (row_at b 0 v.0 p.rows may.row (good m b tick board steps trail d).sound.rows is).some in
      let size = size_is m b tick board steps trail d v.0 may.row is in
      let ts = (line_at board v.0).tokens in
      let same : row p v.0 ≡ may.row = get_or_from_slice_get p.rows v.0 may.row no_row is in
      let cells' : cells (row p v.0) ≡ map cell_of ts = ap cells same ∙ cells_are m b tick board steps trail d v.0 may.row is in
      let end' : end_of ts ≡ last_stop 0 (cells (row p v.0)) = sym (last_is 0 ts (omega arith) 0) ∙ ap (last_stop 0) (sym cells') in
      record {
        row = row_there m b tick board steps trail d v.0 may.row is;
        some = omega arith;
        made = ap (λ (n : ℕ). bound n 0 (neg_ℤ (tick +ℤ pos 1)) ∷ []) end' ∙ ap (λ (z : ℤ). bound (last_stop 0 (cells (row p v.0))) 0 (neg_ℤ (z +ℤ pos 1)) ∷ []) d.horizon;
      }

  -- where a token may be put behind place i
  pub record CanPut (v : SvId) (i : ℕ) (c : Cell) (grown : ℕ) (x : Part) : Type 0 where
    pub place : HasPlace board v.0 i
    pub before : HasToken board (at v.0 i)
    pub small : suc i < 4294967296
    pub brings : grown ≡ grown_by x
    pub few : grown ≤ 2
    pub made : kept_cell m tick b.since (token_of board (at v.0 i)).held.stop c (start_behind (line_at board v.0).tokens i) ≡ kept_bounds m b p x

  -- the bounds that are made, with what is known of where they are made
  pub made_by : (v : SvId) (i : ℕ) (c : Cell) (grown : ℕ) (x : Part) → CanPut v i c grown x → (n : Mission) (y z : ℤ) → n ≡ m → y ≡ tick → z ≡ b.since → kept_cell n y z (token_of board (at v.0 i)).held.stop c (start_behind (line_at board v.0).tokens i) ≡ kept_bounds m b p x
  made_by v i c grown x can n y z e f g =
      let stop = (token_of board (at v.0 i)).held.stop in
      let next = start_behind (line_at board v.0).tokens i in
      ap (λ (k : Mission). kept_cell k y z stop c next) e ∙ ap (λ (k : ℤ). kept_cell m k z stop c next) f ∙ ap (λ (k : ℤ). kept_cell m tick k stop c next) g ∙ can.made

  put_made : (v : SvId) (i : ℕ) (c : Cell) (r : Row) → slice_get p.rows v.0 ≡ Some r → IsSlot i r
      → kept_cell m tick b.since (token_of board (at v.0 i)).held.stop c (start_behind (line_at board v.0).tokens i) ≡ kept_cell m (tick_of m b) b.since (held_at p v.0 i).stop c (start_from (cells (row p v.0)) (suc i))
  put_made v i c r is slot =
      let place = slot.place in
      let x = token_in v.0 i r is (omega arith) in
      let same : row p v.0 ≡ r = get_or_from_slice_get p.rows v.0 r no_row is in
      let ts = (line_at board v.0).tokens in
      let cells' : cells (row p v.0) ≡ map cell_of ts = ap cells same ∙ cells_are m b tick board steps trail d v.0 r is in
      let next : start_behind ts i ≡ start_from (cells (row p v.0)) (suc i) = sym (starts_same ts (suc i)) ∙ ap (λ (cs : List Cell). start_from cs (suc i)) (sym cells') in
      ap (λ (z : ℤ). kept_cell m z b.since (token_of board (at v.0 i)).held.stop c (start_behind ts i)) d.horizon
      ∙ ap (λ (h : Held). kept_cell m (tick_of m b) b.since h.stop c (start_behind ts i)) (sym x.1)
      ∙ ap (λ (o : Option ℕ). kept_cell m (tick_of m b) b.since (held_at p v.0 i).stop c o) next

  put_place : (v : SvId) (i : ℕ) (r : Row) → slice_get p.rows v.0 ≡ Some r → IsSlot i r → HasPlace board v.0 i × HasToken board (at v.0 i) × (suc i < 4294967296)
  put_place v i r is slot =
      let place = slot.place in
      let few = row_few m b p d.begins (good m b tick board steps trail d) v.0 r is in
      let there = slot_there m b tick board board steps steps trail trail d v.0 i r is slot in
      (record { row = row_there m b tick board steps trail d v.0 r is; after = there.0; place = there.1 }, (token_in v.0 i r is (omega arith)).0, omega arith)

  moved : (w v : SvId) (j i : ℕ) (y c : Cell) (k grown : ℕ) (x : Part) → w ≡ v → j ≡ i → c ≡ y → grown ≡ k → CanPut w j y k x → CanPut v i c grown x
  moved w v j i y c k grown x e f g h can =
      subst (λ (u : SvId). CanPut u i c grown x) e
      (subst (λ (n : ℕ). CanPut w n c grown x) f
      (subst (λ (z : Cell). CanPut w j z grown x) (sym g)
      (subst (λ (n : ℕ). CanPut w j y n x) (sym h) can)))

  pub can_put : (x : Part) (v : SvId) (i : ℕ) (c : Cell) (grown : ℕ) → MayDo m b p x → IsPutting p v i c grown x → CanPut v i c grown x
  can_put (Inserted w j value) v i c grown may h =
      let at = put_place w j may.row may.is_row may.slot in
      moved w v j i (gap_cell p w.0 value.0) c 2 grown (Inserted w j value) h.0 h.1 h.2 h.3
      (record { place = at.0; before = at.1; small = at.2; brings = refl; few = omega arith; made = put_made w j (gap_cell p w.0 value.0) may.row may.is_row may.slot })
  can_put (Followed w j value) v i c grown may h =
      let at = put_place w j may.insert.row may.insert.is_row may.insert.slot in
      moved w v j i (joined_cell p w.0 j value.0) c 1 grown (Followed w j value) h.0 h.1 h.2 h.3
      (record { place = at.0; before = at.1; small = at.2; brings = refl; few = omega arith; made = put_made w j (joined_cell p w.0 j value.0) may.insert.row may.insert.is_row may.insert.slot })
  can_put (Joined w j) v i c grown may h = absurd h
  can_put (Finished w) v i c grown may h = absurd h
  can_put (Supported t j by) v i c grown may h = absurd h
  can_put (MetGoal g by) v i c grown may h = absurd h
  can_put (Deferred t j) v i c grown may h = absurd h

  -- where one more token is within the limits, the counts stay small
  pub record HasCounts : Type 0 where
    pub points_few : board.points + 2 ≤ 131072
    pub trail_few : points_of trail + 2 ≤ 131072
    pub added_few : board.added ≤ 128
    pub total_few : board.total ≤ 2048000

  -- the counts stay small in any case
  pub counts_few : (board.points ≤ 131072) × (board.total ≤ 2048000) × (length b.base ≤ 1000)
  counts_few =
      let mission = d.begins.checked.mission.few_horizons in
      let left = slice_get_within m.horizons (length b.base) d.begins.horizon d.begins.is_horizon in
      let g = good m b tick board steps trail d in
      let few = few m b tick board steps trail d in
      let shown = ap (λ (q : Partial). q.points) d.shows in
      let total = d.counts.total in
      let all = all_few m b p d.begins g in
      (omega arith, omega arith, omega arith)

  pub has_counts : has_room b p ≡ true → HasCounts
  has_counts room =
      let g = good m b tick board steps trail d in
      let e = points m b tick board steps trail d in
      let few = few_points m b p d.begins g.small room in
      let shown = ap (λ (q : Partial). q.points) d.shows in
      let added = d.counts.added in
      let total = d.counts.total in
      let new = g.few in
      let all = all_few m b p d.begins g in
      record { points_few = omega arith; trail_few = omega arith; added_few = omega arith; total_few = omega arith }

-- a token was put in
pub db_put : (m : Mission) (b : Begun) (tick : ℤ) (board board' : Board) (steps steps' : List Step) (trail trail' : Trailed) (d : IsDb m b tick board steps trail) (x : Part) (v : SvId) (i : ℕ) (c : Cell) (grown : ℕ) (t : Token)
    → MayDo m b (shown_of m b steps) x → has_room b (shown_of m b steps) ≡ true → IsPutting (shown_of m b steps) v i c grown x → cell_of t ≡ c → t.unmet ≡ 0 → t.needs ≡ length (needs_of m t.held.kind)
    → Gains (parts_with grown (kept_bounds m b (shown_of m b steps) x)) trail trail' → steps' ≡ steps ++ record { part = x; mark = length trail.parts } ∷ []
    → Puts v.0 i t grown board board' → IsDb m b tick board' steps' trail'
db_put m b tick board board' steps steps' trail trail' d (Inserted w j value) v i c grown t may room h cell none all gains is puts =
    db_inserted m b tick board board' steps steps' trail trail' d w j value t may room (cell ∙ h.2) none all
    (subst (λ (n : ℕ). Gains (parts_with n (kept_bounds m b (shown_of m b steps) (Inserted w j value))) trail trail') h.3 gains) is
    (subst (λ (u : SvId). Puts u.0 j t 2 board board') (sym h.0) (subst (λ (k : ℕ). Puts v.0 k t 2 board board') (sym h.1) (subst (λ (n : ℕ). Puts v.0 i t n board board') h.3 puts)))
db_put m b tick board board' steps steps' trail trail' d (Followed w j value) v i c grown t may room h cell none all gains is puts =
    db_followed m b tick board board' steps steps' trail trail' d w j value t may room (cell ∙ h.2) none all
    (subst (λ (n : ℕ). Gains (parts_with n (kept_bounds m b (shown_of m b steps) (Followed w j value))) trail trail') h.3 gains) is
    (subst (λ (u : SvId). Puts u.0 j t 1 board board') (sym h.0) (subst (λ (k : ℕ). Puts v.0 k t 1 board board') (sym h.1) (subst (λ (n : ℕ). Puts v.0 i t n board board') h.3 puts)))
db_put m b tick board board' steps steps' trail trail' d (Joined w j) v i c grown t may room h cell none all gains is puts = absurd h
db_put m b tick board board' steps steps' trail trail' d (Finished w) v i c grown t may room h cell none all gains is puts = absurd h
db_put m b tick board board' steps steps' trail trail' d (Supported u j by) v i c grown t may room h cell none all gains is puts = absurd h
db_put m b tick board board' steps steps' trail trail' d (MetGoal g by) v i c grown t may room h cell none all gains is puts = absurd h
db_put m b tick board board' steps steps' trail trail' d (Deferred u j) v i c grown t may room h cell none all gains is puts = absurd h

-- what a part changes, told of the draft before its bounds were made
module _ (m : Mission) (b : Begun) (tick : ℤ) (old mid : Draft) (d : IsDb m b tick old.board old.course.steps.items old.course.trail) (board : mid.board ≡ old.board) (course : mid.course ≡ old.course) (x : Part) (may : MayDo m b (shown_of m b old.course.steps.items) x) (made : mid.made.items ≡ kept_bounds m b (shown_of m b old.course.steps.items) x) where
  pub mid_range : (grown : ℕ) → grown ≡ grown_by x → All (IsInRange (points_of mid.course.trail + grown)) mid.made.items
  mid_range grown e =
      subst (λ (c : Course). All (IsInRange (points_of c.trail + grown)) mid.made.items) (sym course)
      (subst (λ (n : ℕ). All (IsInRange (points_of old.course.trail + n)) mid.made.items) (sym e) (range m b tick old.board old.course.steps.items old.course.trail d x mid.made.items may made))

  pub mid_gains : (grown : ℕ) (new : Draft) → Takes x grown mid.made.items mid new → Gains (parts_with grown (kept_bounds m b (shown_of m b old.course.steps.items) x)) old.course.trail new.course.trail
  mid_gains grown new takes =
      subst (λ (l : List Bound). Gains (parts_with grown l) old.course.trail new.course.trail) made
      (subst (λ (c : Course). Gains (parts_with grown mid.made.items) c.trail new.course.trail) course takes.gains)

  pub mid_steps : (grown : ℕ) (new : Draft) → Takes x grown mid.made.items mid new → new.course.steps.items ≡ old.course.steps.items ++ record { part = x; mark = length old.course.trail.parts } ∷ []
  mid_steps grown new takes = subst (λ (c : Course). new.course.steps.items ≡ c.steps.items ++ record { part = x; mark = length c.trail.parts } ∷ []) course takes.steps

  pub mid_shut : (e : Shut) → IfCycle e (HasNoSchedule (bounds_of mid.course.trail ++ mid.made.items)) → IfCycle e (HasSchedule m b (do_part (shown_of m b old.course.steps.items) x) → ⊥)
  mid_shut e h =
      shut_told m b tick old.board old.course.steps.items old.course.trail d x mid.made.items e may made
      (subst (λ (c : Course). IfCycle e (HasNoSchedule (bounds_of c.trail ++ mid.made.items))) course h)

  -- a draft in which nothing more has changed
  pub mid_same : (new : Draft) → KeepsDraft mid new → IsDb m b tick new.board new.course.steps.items new.course.trail
  mid_same new keeps =
      db_same m b tick mid.board new.board mid.course.steps.items new.course.steps.items mid.course.trail new.course.trail
      (subst (λ (y : Board). IsDb m b tick y mid.course.steps.items mid.course.trail) (sym board) (subst (λ (c : Course). IsDb m b tick old.board c.steps.items c.trail) (sym course) d)) keeps.board keeps.trail keeps.steps

  pub mid_put : (v : SvId) (i : ℕ) (c : Cell) (grown : ℕ) (t : Token) (new : Draft) → has_room b (shown_of m b old.course.steps.items) ≡ true → IsPutting (shown_of m b old.course.steps.items) v i c grown x → cell_of t ≡ c → t.unmet ≡ 0 → t.needs ≡ length (needs_of m t.held.kind)
      → Takes x grown mid.made.items mid new → Puts v.0 i t grown mid.board new.board → IsDb m b tick new.board new.course.steps.items new.course.trail
  mid_put v i c grown t new room puts cell none all takes p =
      db_put m b tick old.board new.board old.course.steps.items new.course.steps.items old.course.trail new.course.trail d x v i c grown t may room puts cell none all
      (mid_gains grown new takes) (mid_steps grown new takes) (subst (λ (y : Board). Puts v.0 i t grown y new.board) board p)

-- what a Db knew where its search began
abbrev pub begun_in : Inside → Begun
begun_in i = record { base = i.base.plan.extensions; since = i.since; fixed = i.fixed }

-- what its callers see
abbrev pub seen_in : Inside → Planning
seen_in i = record { mission = i.base.mission; begun = begun_in i; parts = parts_of i.draft.course.steps.items }

-- what holds of its fields
abbrev pub IsHeldIn : Inside → Type 0
IsHeldIn i = IsDb i.base.mission (begun_in i) i.tick i.draft.board i.draft.course.steps.items i.draft.course.trail

-- a token of that value that is joined to the one before it
abbrev pub cell_behind : SvId → ValId → ℕ → ℕ → Cell
cell_behind v value start stop = record { held = record { kind = record { sv = v; value = value }; start = start; stop = stop }; joined = true }

module _ (i : Inside) (d : IsHeldIn i) (s : Planning) (seen : seen_in i ≡ s) where
  pub room_in : has_room s.begun (partial_of s) ≡ true → has_room (begun_in i) (partial_of (seen_in i)) ≡ true
  room_in room = subst (λ (q : Planning). has_room q.begun (partial_of q) ≡ true) (sym seen) room

  pub counts_in : has_room s.begun (partial_of s) ≡ true → HasCounts i.base.mission (begun_in i) i.tick i.draft.board i.draft.course.steps.items i.draft.course.trail d
  counts_in room = has_counts i.base.mission (begun_in i) i.tick i.draft.board i.draft.course.steps.items i.draft.course.trail d (room_in room)

  module _ (x : Part) (may : MayDoNow s x) where
    pub may_in : MayDo i.base.mission (begun_in i) (partial_of (seen_in i)) x
    may_in = subst (λ (q : Planning). MayDoNow q x) (sym seen) may

    module _ (mid : Draft) (board : mid.board ≡ i.draft.board) (course : mid.course ≡ i.draft.course) (made : mid.made.items ≡ kept_bounds i.base.mission (begun_in i) (partial_of (seen_in i)) x) where
      pub shut_in : (e : Shut) → IfCycle e (HasNoSchedule (bounds_of mid.course.trail ++ mid.made.items)) → IfCycle e (WouldShut x s)
      shut_in e h = subst (λ (q : Planning). IfCycle e (WouldShut x q)) seen (mid_shut i.base.mission (begun_in i) i.tick i.draft mid d board course x may_in made e h)

      pub range_in : (grown : ℕ) → grown ≡ grown_by x → All (IsInRange (points_of mid.course.trail + grown)) mid.made.items
      range_in grown e = mid_range i.base.mission (begun_in i) i.tick i.draft mid d board course x may_in made grown e

      -- where the part brings no point
      pub range_still : 0 ≡ grown_by x → All (IsInRange (points_of mid.course.trail)) mid.made.items
      range_still e = let none : points_of mid.course.trail + 0 ≡ points_of mid.course.trail = omega arith in subst (λ (n : ℕ). All (IsInRange n) mid.made.items) none (range_in 0 e)

    module _ (v : SvId) (k : ℕ) (c : Cell) (grown : ℕ) (puts : IsPutting (partial_of s) v k c grown x) where
      puts_in : IsPutting (partial_of (seen_in i)) v k c grown x
      puts_in = subst (λ (q : Planning). IsPutting (partial_of q) v k c grown x) (sym seen) puts

      pub can_in : CanPut i.base.mission (begun_in i) i.tick i.draft.board i.draft.course.steps.items i.draft.course.trail d v k c grown x
      can_in = can_put i.base.mission (begun_in i) i.tick i.draft.board i.draft.course.steps.items i.draft.course.trail d x v k c grown may_in puts_in

      pub made_in : (made : List Bound) (n : Mission) (y z : ℤ) → made ≡ kept_cell n y z (token_of i.draft.board (at v.0 k)).held.stop c (start_behind (line_at i.draft.board v.0).tokens k) → n ≡ i.base.mission → y ≡ i.tick → z ≡ i.since → made ≡ kept_bounds i.base.mission (begun_in i) (partial_of (seen_in i)) x
      made_in made n y z is e f g = is ∙ made_by i.base.mission (begun_in i) i.tick i.draft.board i.draft.course.steps.items i.draft.course.trail d v k c grown x can_in n y z e f g

      pub put_in : (mid : Draft) → mid.board ≡ i.draft.board → mid.course ≡ i.draft.course → mid.made.items ≡ kept_bounds i.base.mission (begun_in i) (partial_of (seen_in i)) x
          → (t : Token) (new : Draft) → has_room s.begun (partial_of s) ≡ true → cell_of t ≡ c → t.unmet ≡ 0 → t.needs ≡ length (needs_of i.base.mission t.held.kind)
          → Takes x grown mid.made.items mid new → Puts v.0 k t grown mid.board new.board → IsDb i.base.mission (begun_in i) i.tick new.board new.course.steps.items new.course.trail
      put_in mid board course made t new room cell none all takes put = mid_put i.base.mission (begun_in i) i.tick i.draft mid d board course x may_in made v k c grown t new (room_in room) puts_in cell none all takes put

  -- a gap that may be closed
  module _ (v : SvId) (k : ℕ) (may : MayDoNow s (Joined v k)) where
    pub can_join_in : CanJoin i.base.mission (begun_in i) i.tick i.draft.board i.draft.course.steps.items i.draft.course.trail d v k
    can_join_in = can_join i.base.mission (begun_in i) i.tick i.draft.board i.draft.course.steps.items i.draft.course.trail d v k (may_in (Joined v k) may)

    pub joined_in : (mid new : Draft) → mid.board ≡ i.draft.board → mid.course ≡ i.draft.course → mid.made.items ≡ kept_bounds i.base.mission (begun_in i) (partial_of (seen_in i)) (Joined v k)
        → Takes (Joined v k) 0 mid.made.items mid new → ChangesRow v.0 (with_joined (suc k) true (line_at mid.board v.0)) mid.board new.board → IsDb i.base.mission (begun_in i) i.tick new.board new.course.steps.items new.course.trail
    joined_in mid new board course made takes c =
        db_joined i.base.mission (begun_in i) i.tick i.draft.board new.board i.draft.course.steps.items new.course.steps.items i.draft.course.trail new.course.trail d v k (may_in (Joined v k) may)
        (mid_gains i.base.mission (begun_in i) i.tick i.draft mid d board course (Joined v k) (may_in (Joined v k) may) made 0 new takes)
        (mid_steps i.base.mission (begun_in i) i.tick i.draft mid d board course (Joined v k) (may_in (Joined v k) may) made 0 new takes)
        (subst (λ (y : Board). ChangesRow v.0 (with_joined (suc k) true (line_at y v.0)) y new.board) board c)

  -- a timeline that may be finished
  module _ (v : SvId) (may : MayDoNow s (Finished v)) where
    pub can_finish_in : CanFinish i.base.mission (begun_in i) i.tick i.draft.board i.draft.course.steps.items i.draft.course.trail d v
    can_finish_in = can_finish i.base.mission (begun_in i) i.tick i.draft.board i.draft.course.steps.items i.draft.course.trail d v (may_in (Finished v) may)

    pub finish_made_in : (made : List Bound) (z : ℤ) → made ≡ bound (end_of (line_at i.draft.board v.0).tokens) 0 (neg_ℤ (z +ℤ pos 1)) ∷ [] → z ≡ i.tick → made ≡ kept_bounds i.base.mission (begun_in i) (partial_of (seen_in i)) (Finished v)
    finish_made_in made z is e = is ∙ ap (λ (y : ℤ). bound (end_of (line_at i.draft.board v.0).tokens) 0 (neg_ℤ (y +ℤ pos 1)) ∷ []) e ∙ can_finish_in.made

    pub finished_in : (mid new : Draft) → mid.board ≡ i.draft.board → mid.course ≡ i.draft.course → mid.made.items ≡ kept_bounds i.base.mission (begun_in i) (partial_of (seen_in i)) (Finished v)
        → Takes (Finished v) 0 mid.made.items mid new → ChangesRow v.0 (record (line_at mid.board v.0) { finished = true }) mid.board new.board → IsDb i.base.mission (begun_in i) i.tick new.board new.course.steps.items new.course.trail
    finished_in mid new board course made takes c =
        db_finished i.base.mission (begun_in i) i.tick i.draft.board new.board i.draft.course.steps.items new.course.steps.items i.draft.course.trail new.course.trail d v (may_in (Finished v) may)
        (mid_gains i.base.mission (begun_in i) i.tick i.draft mid d board course (Finished v) (may_in (Finished v) may) made 0 new takes)
        (mid_steps i.base.mission (begun_in i) i.tick i.draft mid d board course (Finished v) (may_in (Finished v) may) made 0 new takes)
        (subst (λ (y : Board). ChangesRow v.0 (record (line_at y v.0) { finished = true }) y new.board) board c)

  -- a place that a token may follow
  module _ (v : SvId) (k : ℕ) (value : ValId) (may : MayDoNow s (Followed v k value)) where
    pub follow_there_in : HasToken i.draft.board (at v.0 k)
    follow_there_in =
        let h = (may_in (Followed v k value) may).insert in
        (put_place i.base.mission (begun_in i) i.tick i.draft.board i.draft.course.steps.items i.draft.course.trail d v k h.row h.is_row h.slot).1

    pub follow_cell_in : (t : Token) → t ≡ token_of i.draft.board (at v.0 k) → cell_behind v value t.held.stop i.draft.board.points ≡ joined_cell (partial_of s) v.0 k value.0
    follow_cell_in t is =
        let h = (may_in (Followed v k value) may).insert in
        let place = h.slot.place in
        let held = (token_in i.base.mission (begun_in i) i.tick i.draft.board i.draft.course.steps.items i.draft.course.trail d v.0 k h.row h.is_row (omega arith)).1 in
        ap (λ (u : Token). cell_behind v value u.held.stop i.draft.board.points) is
        ∙ ap (λ (u : Held). cell_behind v value u.stop i.draft.board.points) (sym held)
        ∙ ap (λ (q : Partial). cell_behind v value (held_at (partial_of (seen_in i)) v.0 k).stop q.points) d.shows
        ∙ ap (λ (q : Planning). joined_cell (partial_of q) v.0 k value.0) seen

-- the trail has a point, and room for no more than 131,072
pub points_in : (i : Inside) → IsHeldIn i → (0 < points_of i.draft.course.trail) × (points_of i.draft.course.trail ≤ 131072)
points_in i d = trail_points i.base.mission (begun_in i) i.tick i.draft.board i.draft.course.steps.items i.draft.course.trail d

-- how few points, tokens and extensions there are
pub few_in : (i : Inside) → IsHeldIn i → (i.draft.board.points ≤ 131072) × (i.draft.board.total ≤ 2048000) × (length i.base.plan.extensions ≤ 1000)
few_in i d = counts_few i.base.mission (begun_in i) i.tick i.draft.board i.draft.course.steps.items i.draft.course.trail d

-- there is a row for each variable
pub rows_in : (i : Inside) → IsHeldIn i → length i.draft.board.lines.items ≡ length i.base.mission.vars
rows_in i d =
    sym (length-map' row_of i.draft.board.lines.items) ∙ ap (λ (q : Partial). length q.rows) d.shows
    ∙ (good i.base.mission (begun_in i) i.tick i.draft.board i.draft.course.steps.items i.draft.course.trail d).sound.one_each
