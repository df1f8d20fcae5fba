-- What the changes of a draft make of a Db.
use Rattle.std.proofs.Common.{◌≡◌, ℕ, ℤ, suc, ◌-◌, ◌≤◌, true, List, [], ◌∷◌, ◌++◌, Some, length, map, insert, take, slice_get, refl, sym, ap, ◌∙◌, subst, length-append, arith}
use Rattle.std.proofs.Math.Seq.{take-append_seam}
use Rattle.std.proofs.lemmas.Option.{slice_get_within}
use Rattle.hs_base.specs.Needs.{needs_of}
use Rattle.hs_base.specs.declared.ids.SvId.{SvId}
use Rattle.hs_base.specs.declared.ids.ValId.{ValId}
use Rattle.hs_base.specs.declared.mission.Mission.{Mission}
use Rattle.search_tree.proofs.SoundLemmas.{length-at_place}
use Rattle.search_tree.specs.Begun.{Begun}
use Rattle.search_tree.specs.May.{IsSlot, MayDo}
use Rattle.search_tree.specs.Partial.{Partial, Row, cells}
use Rattle.search_tree.specs.Parts.{at_place, close, do_part, end_row, gap_cell, joined_cell, put, with_rows}
use Rattle.search_tree.specs.Resolvers.{has_room}
use Rattle.search_tree.specs.declared.held.Cell.{Cell}
use Rattle.search_tree.specs.declared.part.Part.TheVariants.{Finished, Followed, Inserted, Joined}
use Rattle.stn_trail.specs.Held.{Leaves, Held as Trailed}
use Rattle.stn_trail.specs.declared.part.Part.{Part as TrailPart}
use Rattle.timeline_db.proofs.FactLemmas.{good, line, size_is}
use Rattle.timeline_db.proofs.PictureLemmas.{row-close, row-put}
use Rattle.timeline_db.proofs.StepLemmas.{counted_row, db_done, given_shown, length-put, partial-same, picture_row, shown_of, tracked_finished, tracked_joined, tracked_put}
use Rattle.timeline_db.specs.Boards.{ChangesRow, Puts, line_at, no_line, pictured}
use Rattle.timeline_db.specs.Courses.{Gains, IsSame, parts_with}
use Rattle.timeline_db.specs.Databases.{IsDb}
use Rattle.timeline_db.specs.Drafts.{KeepsBoard}
use Rattle.timeline_db.specs.Kept.{kept_bounds}
use Rattle.timeline_db.specs.Lines.{cell_of, row_of, with_joined}
use Rattle.timeline_db.specs.Tracked.{AreTracked}
use Rattle.timeline_db.specs.declared.board.Board.{Board}
use Rattle.timeline_db.specs.declared.course.Step.{Step}
use Rattle.timeline_db.specs.declared.token.Token.{Token}
use Rattle.base_laws.proofs.ListLemmas.{slice_get-middle}
use Rattle.std.proofs.lemmas.List.{set-get_or}

-- a part that is taken back right away leaves nothing
pub back_same : (old mid new : Trailed) (steps steps' steps'' : List Step) (s : Step) (more : List TrailPart) → Gains more old mid → steps' ≡ steps ++ s ∷ [] → s.mark ≡ length old.parts
    → ((q : Step) → slice_get steps' (length steps' - 1) ≡ Some q → Leaves q.mark mid new) → steps'' ≡ take (length steps' - 1) steps' → IsSame old new × (steps'' ≡ steps)
back_same old mid new steps steps' steps'' s more g e mark leaves is =
    let size : length steps' - 1 ≡ length steps = omega (arith, ap length e, length-append steps (s ∷ [])) in
    let last : slice_get steps' (length steps' - 1) ≡ Some s = ap (slice_get steps') size ∙ ap (λ (l : List Step). slice_get l (length steps)) e ∙ slice_get-middle steps s [] in
    let l = leaves s last in (
      record {
        first = l.first ∙ g.first;
        parts = l.parts ∙ ap (λ (n : ℕ). take n mid.parts) mark ∙ ap (take (length old.parts)) g.parts ∙ take-append_seam old.parts more;
      },
      is ∙ ap (λ (n : ℕ). take n steps') size ∙ ap (take (length steps)) e ∙ take-append_seam steps (s ∷ []),
    )

pub keeps_board : (old new : Board) (v : ℕ) → ChangesRow v (line_at old v) old new → KeepsBoard old new
keeps_board old new v c = record {
  lines = c.lines ∙ set-get_or old.lines.items v no_line;
  supports = c.rest.supports;
  goals = c.rest.goals;
  deferred = c.rest.deferred;
  points = c.points;
  added = c.added;
  total = c.total;
}

-- where nothing has changed
pub db_same : (m : Mission) (b : Begun) (tick : ℤ) (board board' : Board) (steps steps' : List Step) (trail trail' : Trailed) → IsDb m b tick board steps trail → KeepsBoard board board' → IsSame trail trail' → steps' ≡ steps → IsDb m b tick board' steps' trail'
db_same m b tick board board' steps steps' trail trail' d k t e = subst (λ (l : List Step). IsDb m b tick board' l trail') (sym e) (record {
  begins = d.begins;
  horizon = d.horizon;
  allowed = d.allowed;
  shows = partial-same (pictured board') (pictured board) (ap (map row_of) k.lines) k.supports k.goals k.deferred k.points ∙ d.shows;
  counts = record { added = k.added ∙ d.counts.added; total = k.total ∙ d.counts.total };
  tracked = subst (AreTracked m b (shown_of m b steps)) (sym k.lines) d.tracked;
  course = record { first = t.first ∙ d.course.first; parts = t.parts ∙ d.course.parts; marks = d.course.marks };
})

module _ (m : Mission) (b : Begun) (tick : ℤ) (board board' : Board) (steps steps' : List Step) (trail trail' : Trailed) (d : IsDb m b tick board steps trail) where
  abbrev p : Partial
  p = shown_of m b steps

  -- no token of the plan that is extended stands behind the place
  after_given : (v i : ℕ) (r : Row) → slice_get p.rows v ≡ Some r → length r.given ≤ suc i → (line_at board v).given ≤ suc i
  after_given v i r is after =
      let l = line m b tick board steps trail d v r is in
      let n = given_shown (line_at board v) (d.tracked.line v (line_at board v) l.0) in
      omega (arith, n, ap (λ (q : Row). length q.given) l.1)

  -- a gap was closed
  pub db_joined : (v : SvId) (i : ℕ) → MayDo m b p (Joined v i) → Gains (parts_with 0 (kept_bounds m b p (Joined v i))) trail trail' → steps' ≡ steps ++ record { part = Joined v i; mark = length trail.parts } ∷ []
      → ChangesRow v.0 (with_joined (suc i) true (line_at board v.0)) board board' → IsDb m b tick board' steps' trail'
  db_joined v i may gains is c =
      let l = line m b tick board steps trail d v.0 may.row may.is_row in
      let s = line_at board v.0 in
      let ok = d.tracked.line v.0 s l.0 in
      let after = after_given v.0 i may.row may.is_row may.after in
      let inside = slice_get_within (cells may.row) (suc i) may.cell may.here in
      let size = size_is m b tick board steps trail d v.0 may.row may.is_row in
      db_done m b tick board board' steps steps' trail trail' (Joined v i) d may tt gains is
      (picture_row board board' v.0 0 (with_joined (suc i) true s) (close i) c.lines c.rest (let e = c.points in omega arith) (row-close s ok.within i after) ∙ ap (λ (q : Partial). do_part q (Joined v i)) d.shows)
      (counted_row p board board' v.0 0 0 (close i) may.row may.is_row d.counts (let e = c.added in omega arith) (let e = c.total in omega arith) (λ q. omega (arith, length-at_place (λ (x : Cell). record { held = x.held; joined = true }) (suc i - length q.given) q.added)) (λ q. refl))
      (subst (AreTracked m b (do_part p (Joined v i))) (sym c.lines) (tracked_joined m b p (at_place (close i) v.0 p.rows) board.lines.items v.0 i s true d.tracked l.0 after (omega arith)))

  -- a timeline was finished
  pub db_finished : (v : SvId) → MayDo m b p (Finished v) → Gains (parts_with 0 (kept_bounds m b p (Finished v))) trail trail' → steps' ≡ steps ++ record { part = Finished v; mark = length trail.parts } ∷ []
      → ChangesRow v.0 (record (line_at board v.0) { finished = true }) board board' → IsDb m b tick board' steps' trail'
  db_finished v may gains is c =
      let l = line m b tick board steps trail d v.0 may.row may.is_row in
      let s = line_at board v.0 in
      db_done m b tick board board' steps steps' trail trail' (Finished v) d may tt gains is
      (picture_row board board' v.0 0 (record s { finished = true }) end_row c.lines c.rest (let e = c.points in omega arith) refl ∙ ap (λ (q : Partial). do_part q (Finished v)) d.shows)
      (counted_row p board board' v.0 0 0 end_row may.row may.is_row d.counts (let e = c.added in omega arith) (let e = c.total in omega arith) (λ q. omega arith) (λ q. refl))
      (subst (AreTracked m b (do_part p (Finished v))) (sym c.lines) (tracked_finished m b p (at_place end_row v.0 p.rows) board.lines.items v.0 s true d.tracked l.0))

  -- where a token may be put, the code may put one
  pub slot_there : (v i : ℕ) (r : Row) → slice_get p.rows v ≡ Some r → IsSlot i r → ((line_at board v).given ≤ suc i) × (suc i ≤ length (line_at board v).tokens)
  slot_there v i r is slot =
      let place = slot.place in
      let size = size_is m b tick board steps trail d v r is in
      (after_given v i r is slot.after, omega arith)

  -- a token was put in behind a gap
  pub db_inserted : (v : SvId) (i : ℕ) (value : ValId) (t : Token) → MayDo m b p (Inserted v i value) → has_room b p ≡ true → cell_of t ≡ gap_cell p v.0 value.0 → t.unmet ≡ 0 → t.needs ≡ length (needs_of m t.held.kind)
      → Gains (parts_with 2 (kept_bounds m b p (Inserted v i value))) trail trail' → steps' ≡ steps ++ record { part = Inserted v i value; mark = length trail.parts } ∷ []
      → Puts v.0 i t 2 board board' → IsDb m b tick board' steps' trail'
  db_inserted v i value t may room cell none all gains is c =
      let l = line m b tick board steps trail d v.0 may.row may.is_row in
      let s = line_at board v.0 in
      let ok = d.tracked.line v.0 s l.0 in
      let at = slot_there v.0 i may.row may.is_row may.slot in
      let stop : t.held.stop ≡ suc p.points = ap (λ (x : Cell). x.held.stop) cell in
      db_done m b tick board board' steps steps' trail trail' (Inserted v i value) d may room gains is
      (picture_row board board' v.0 2 (record s { tokens = insert s.tokens (suc i) t }) (put i (cell_of t)) c.lines c.rest c.points (row-put s ok.within i at.0 t at.1)
      ∙ ap (λ (x : Cell). with_rows (pictured board) 2 (at_place (put i x) v.0 (pictured board).rows)) cell
      ∙ ap (λ (q : Partial). with_rows q 2 (at_place (put i (gap_cell p v.0 value.0)) v.0 q.rows)) d.shows)
      (counted_row p board board' v.0 2 1 (put i (gap_cell p v.0 value.0)) may.row may.is_row d.counts (let e = c.added in omega arith) (let e = c.total in omega arith) (length-put i (gap_cell p v.0 value.0)) (λ q. refl))
      (subst (AreTracked m b (do_part p (Inserted v i value))) (sym c.lines) (tracked_put m b p 2 (at_place (put i (gap_cell p v.0 value.0)) v.0 p.rows) board.lines.items v.0 i s t (good m b tick board steps trail d) d.tracked l.0 at.0 at.1 (omega arith) none all))

  -- a token was put in and joined to the one before it
  pub db_followed : (v : SvId) (i : ℕ) (value : ValId) (t : Token) → MayDo m b p (Followed v i value) → has_room b p ≡ true → cell_of t ≡ joined_cell p v.0 i value.0 → t.unmet ≡ 0 → t.needs ≡ length (needs_of m t.held.kind)
      → Gains (parts_with 1 (kept_bounds m b p (Followed v i value))) trail trail' → steps' ≡ steps ++ record { part = Followed v i value; mark = length trail.parts } ∷ []
      → Puts v.0 i t 1 board board' → IsDb m b tick board' steps' trail'
  db_followed v i value t may room cell none all gains is c =
      let r = may.insert.row in
      let l = line m b tick board steps trail d v.0 r may.insert.is_row in
      let s = line_at board v.0 in
      let ok = d.tracked.line v.0 s l.0 in
      let at = slot_there v.0 i r may.insert.is_row may.insert.slot in
      let stop : t.held.stop ≡ p.points = ap (λ (x : Cell). x.held.stop) cell in
      db_done m b tick board board' steps steps' trail trail' (Followed v i value) d may room gains is
      (picture_row board board' v.0 1 (record s { tokens = insert s.tokens (suc i) t }) (put i (cell_of t)) c.lines c.rest c.points (row-put s ok.within i at.0 t at.1)
      ∙ ap (λ (x : Cell). with_rows (pictured board) 1 (at_place (put i x) v.0 (pictured board).rows)) cell
      ∙ ap (λ (q : Partial). with_rows q 1 (at_place (put i (joined_cell p v.0 i value.0)) v.0 q.rows)) d.shows)
      (counted_row p board board' v.0 1 1 (put i (joined_cell p v.0 i value.0)) r may.insert.is_row d.counts (let e = c.added in omega arith) (let e = c.total in omega arith) (length-put i (joined_cell p v.0 i value.0)) (λ q. refl))
      (subst (AreTracked m b (do_part p (Followed v i value))) (sym c.lines) (tracked_put m b p 1 (at_place (put i (joined_cell p v.0 i value.0)) v.0 p.rows) board.lines.items v.0 i s t (good m b tick board steps trail d) d.tracked l.0 at.0 at.1 (omega arith) none all))
