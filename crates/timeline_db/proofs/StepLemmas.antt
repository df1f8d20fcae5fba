-- A part more keeps what holds of a Db.
use Rattle.std.proofs.Common.{◌≡◌, ℕ, ℤ, zero, suc, ◌+◌, ◌<◌, ◌≤◌, Bool, true, List, [], ◌∷◌, ◌++◌, Option, Some, length, map, insert, set, take, flat_map, get_or, slice_get, refl, sym, ap, ◌∙◌, subst, inl, inr, length-append, arith, length-set, ◌-◌}
use Rattle.std.proofs.lemmas.Option.{get_or_from_slice_get, slice_get-get_or}
use Rattle.std.specs.List.{AllByRecursion}
use Rattle.hs_base.specs.Needs.{needs_of}
use Rattle.hs_base.specs.declared.mission.Mission.{Mission}
use Rattle.search_tree.proofs.CellLemmas.{length-cells, slice_get-map_some}
use Rattle.search_tree.proofs.SizeLemmas.{new_changed}
use Rattle.search_tree.specs.Begun.{Begun}
use Rattle.search_tree.specs.May.{HasRoom, MayDo}
use Rattle.search_tree.specs.Partial.{Partial, Row, begin, cells, row}
use Rattle.search_tree.specs.Parts.{at_place, do_part, do_parts, grown_by, put, with_rows}
use Rattle.search_tree.specs.declared.backing.Backing.{Backing}
use Rattle.search_tree.specs.declared.backing.Deferral.{Deferral}
use Rattle.search_tree.specs.declared.held.Held.{Held}
use Rattle.search_tree.specs.declared.part.Part.{Part}
use Rattle.stn_trail.specs.Held.{Held as Trailed}
use Rattle.timeline_db.proofs.DbLemmas.{course_pushed, parts-push}
use Rattle.search_laws.proofs.GoodLemmas.{allowed-push, do_parts-append}
use Rattle.timeline_db.proofs.PictureLemmas.{given_length, rows-set, take-insert}
use Rattle.timeline_db.proofs.TrackLemmas.{from-insert, from-set, like_tracked, new_tracked, tracked_row}
use Rattle.timeline_db.specs.Boards.{KeepsRest, line_at, no_line, pictured}
use Rattle.timeline_db.specs.Courses.{Gains, parts_with}
use Rattle.timeline_db.specs.Databases.{IsCounted, IsDb, parts_of}
use Rattle.search_laws.specs.Good.{AreAllowed, IsGood}
use Rattle.timeline_db.specs.Kept.{kept_bounds}
use Rattle.timeline_db.specs.Lines.{Shown, nothing_held, row_of, with_joined}
use Rattle.timeline_db.specs.Tracked.{AreTracked, IsLine, IsTracked}
use Rattle.timeline_db.specs.declared.board.Board.{Board}
use Rattle.timeline_db.specs.declared.course.Step.{Step}
use Rattle.timeline_db.specs.declared.token.Token.{Token}
use Rattle.search_laws.proofs.LawfulLemmas.{length-insert_one}
use Rattle.search_tree.specs.declared.held.Cell.{Cell}

-- the partial plan of the parts that were done
abbrev pub shown_of : Mission → Begun → List Step → Partial
shown_of m b steps = do_parts (begin m b) (parts_of steps)

-- one part more
pub db_done : (m : Mission) (b : Begun) (tick : ℤ) (board board' : Board) (steps steps' : List Step) (trail trail' : Trailed) (x : Part)
    → IsDb m b tick board steps trail → MayDo m b (shown_of m b steps) x → HasRoom b (shown_of m b steps) x
    → Gains (parts_with (grown_by x) (kept_bounds m b (shown_of m b steps) x)) trail trail' → steps' ≡ steps ++ record { part = x; mark = length trail.parts } ∷ []
    → pictured board' ≡ do_part (shown_of m b steps) x → IsCounted (do_part (shown_of m b steps) x) board' → AreTracked m b (do_part (shown_of m b steps) x) board'.lines.items
    → IsDb m b tick board' steps' trail'
db_done m b tick board board' steps steps' trail trail' x d may room gains is shows counts tracked =
    let s : Step = record { part = x; mark = length trail.parts } in
    let parts : parts_of steps' ≡ parts_of steps ++ x ∷ [] = ap parts_of is ∙ parts-push steps s in
    let now : shown_of m b steps' ≡ do_part (shown_of m b steps) x = ap (do_parts (begin m b)) parts ∙ do_parts-append (begin m b) (parts_of steps) (x ∷ []) in
    record {
      begins = d.begins;
      horizon = d.horizon;
      allowed = subst (AreAllowed m b (begin m b)) (sym parts) (allowed-push m b (begin m b) (parts_of steps) x d.allowed may room);
      shows = shows ∙ sym now;
      counts = subst (λ (p : Partial). IsCounted p board') (sym now) counts;
      tracked = subst (λ (p : Partial). AreTracked m b p board'.lines.items) (sym now) tracked;
      course = course_pushed m b steps steps' trail trail' x d.course gains is;
    }

pub partial-same : (p q : Partial) → p.rows ≡ q.rows → p.supports ≡ q.supports → p.goals ≡ q.goals → p.deferred ≡ q.deferred → p.points ≡ q.points → p ≡ q
partial-same p q rows supports goals deferred points =
    ap (λ (r : List Row). let z : Partial = record { rows = r; supports = p.supports; goals = p.goals; deferred = p.deferred; points = p.points } in z) rows
    ∙ ap (λ (s : List Backing). let z : Partial = record { rows = q.rows; supports = s; goals = p.goals; deferred = p.deferred; points = p.points } in z) supports
    ∙ ap (λ (g : List (Option Held)). let z : Partial = record { rows = q.rows; supports = q.supports; goals = g; deferred = p.deferred; points = p.points } in z) goals
    ∙ ap (λ (d : List Deferral). let z : Partial = record { rows = q.rows; supports = q.supports; goals = q.goals; deferred = d; points = p.points } in z) deferred
    ∙ ap (λ (n : ℕ). let z : Partial = record { rows = q.rows; supports = q.supports; goals = q.goals; deferred = q.deferred; points = n } in z) points

-- one row is changed
pub picture_row : (board board' : Board) (v grown : ℕ) (s : Shown) (f : Row → Row) → board'.lines.items ≡ set board.lines.items v s → KeepsRest board board' → board'.points ≡ board.points + grown → row_of s ≡ f (row_of (line_at board v))
    → pictured board' ≡ with_rows (pictured board) grown (at_place f v (pictured board).rows)
picture_row board board' v grown s f lines rest points row =
    partial-same (pictured board') (with_rows (pictured board) grown (at_place f v (pictured board).rows)) (ap (map row_of) lines ∙ rows-set board.lines.items v s no_line f row) rest.supports rest.goals rest.deferred points

-- how many tokens there are where a row changes
pub tokens_changed : (g : Row → Row) (more v : ℕ) (rows : List Row) (r : Row) → slice_get rows v ≡ Some r → ((q : Row) → length (cells (g q)) ≡ more + length (cells q)) → length (flat_map cells (at_place g v rows)) ≡ more + length (flat_map cells rows)
tokens_changed g more v [] r is h = absurd (cc)
tokens_changed g more zero (q ∷ rows) r is h = omega (arith, h q, length-append (cells (g q)) (flat_map cells rows), length-append (cells q) (flat_map cells rows))
tokens_changed g more (suc v) (q ∷ rows) r is h = omega (arith, tokens_changed g more v rows r is h, length-append (cells q) (flat_map cells (at_place g v rows)), length-append (cells q) (flat_map cells rows))

pub counted_row : (p : Partial) (board board' : Board) (v grown more : ℕ) (f : Row → Row) (r : Row) → slice_get p.rows v ≡ Some r → IsCounted p board → board'.added ≡ more + board.added → board'.total ≡ more + board.total → ((q : Row) → length (f q).added ≡ more + length q.added) → ((q : Row) → (f q).given ≡ q.given) → IsCounted (with_rows p grown (at_place f v p.rows)) board'
counted_row p board board' v grown more f r is c added total new old =
    let a = c.added in
    let t = c.total in
    record {
      added = omega (arith, new_changed f more v p.rows r is new);
      total = omega (arith, tokens_changed f more v p.rows r is (λ q. omega (arith, length-cells (f q), length-cells q, new q, ap length (old q))));
    }

pub length-put : (i : ℕ) (c : Cell) (q : Row) → length (put i c q).added ≡ 1 + length q.added
length-put i c q = omega (arith, length-insert_one q.added (suc i - length q.given) c)

take-set_past : {X : Type 0} (xs : List X) (g k : ℕ) (x : X) → g ≤ k → take g (set xs k x) ≡ take g xs
take-set_past xs zero k x h = refl
take-set_past [] (suc g) zero x h = refl
take-set_past [] (suc g) (suc k) x h = refl
take-set_past (y ∷ xs) (suc g) zero x h = absurd (omega arith)
take-set_past (y ∷ xs) (suc g) (suc k) x h = ap (λ ys. y ∷ ys) (take-set_past xs g k x (omega arith))

line_put : (s : Shown) (i : ℕ) (t : Token) → s.given ≤ suc i → suc i ≤ length s.tokens → IsLine s → IsLine (record s { tokens = insert s.tokens (suc i) t })
line_put s i t after place h = record {
  within = let w = h.within in let l = length-insert_one s.tokens (suc i) t in omega arith;
  joined = subst (AllByRecursion (λ (t : Token). t.joined ≡ true)) (sym (take-insert s.tokens s.given (suc i) t after place)) h.joined;
}

line_joined : (s : Shown) (i : ℕ) (j : Bool) → s.given ≤ suc i → IsLine s → IsLine (with_joined (suc i) j s)
line_joined s i j after h =
    let t : Token = record (get_or s.tokens (suc i) nothing_held) { joined = j } in
    record {
      within = let w = h.within in let l = length-set s.tokens (suc i) t in omega arith;
      joined = subst (AllByRecursion (λ (t : Token). t.joined ≡ true)) (sym (take-set_past s.tokens s.given (suc i) t after)) h.joined;
    }

-- the row of a board
pub line_shown : (board : Board) (v : ℕ) (r : Row) → slice_get (pictured board).rows v ≡ Some r → (slice_get board.lines.items v ≡ Some (line_at board v)) × (row_of (line_at board v) ≡ r)
line_shown board v r is =
    let x = slice_get-map_some row_of board.lines.items v r is in
    let e : line_at board v ≡ x.0 = get_or_from_slice_get board.lines.items v x.0 no_line x.1 in
    (x.1 ∙ ap Some (sym e), ap row_of e ∙ x.2)

pub given_shown : (s : Shown) → IsLine s → length (row_of s).given ≡ s.given
given_shown s h = given_length s h.within

-- a new token is put in
pub tracked_put : (m : Mission) (b : Begun) (p : Partial) (grown : ℕ) (rows : List Row) (lines : List Shown) (v i : ℕ) (s : Shown) (t : Token) → IsGood m b p → AreTracked m b p lines → slice_get lines v ≡ Some s → s.given ≤ suc i → suc i ≤ length s.tokens → p.points ≤ t.held.stop → t.unmet ≡ 0 → t.needs ≡ length (needs_of m t.held.kind)
    → AreTracked m b (with_rows p grown rows) (set lines v (record s { tokens = insert s.tokens (suc i) t }))
tracked_put m b p grown rows lines v i s t good h at after place fresh none all =
    tracked_row m b p (with_rows p grown rows) lines v (record s { tokens = insert s.tokens (suc i) t }) h
    (λ u k. record { most = k.most; needs = k.needs; served = k.served; unserved = k.unserved; all = k.all })
    (line_put s i t after place (h.line v s at))
    (λ j u here. elim (from-insert s.tokens (suc i) t u j here) [
      | inl e ↦ subst (IsTracked m b (with_rows p grown rows)) (sym e) (new_tracked m b p (with_rows p grown rows) t good fresh none all (λ k. refl))
      | inr old ↦ let k = h.each v old.0 s u at old.1 in record { most = k.most; needs = k.needs; served = k.served; unserved = k.unserved; all = k.all }
    ])

-- a gap is closed
pub tracked_joined : (m : Mission) (b : Begun) (p : Partial) (rows : List Row) (lines : List Shown) (v i : ℕ) (s : Shown) (j : Bool) → AreTracked m b p lines → slice_get lines v ≡ Some s → s.given ≤ suc i → suc i < length s.tokens
    → AreTracked m b (with_rows p 0 rows) (set lines v (with_joined (suc i) j s))
tracked_joined m b p rows lines v i s j h at after place =
    tracked_row m b p (with_rows p 0 rows) lines v (with_joined (suc i) j s) h
    (λ u k. record { most = k.most; needs = k.needs; served = k.served; unserved = k.unserved; all = k.all })
    (line_joined s i j after (h.line v s at))
    (λ k u here. elim (from-set s.tokens (suc i) (record (get_or s.tokens (suc i) nothing_held) { joined = j }) u k here) [
      | inl e ↦
          let was = get_or s.tokens (suc i) nothing_held in
          let old = h.each v (suc i) s was at (slice_get-get_or s.tokens (suc i) nothing_held place) in
          let now = like_tracked m b p was u (record { held = ap (λ (y : Token). y.held) e.0; needs = ap (λ (y : Token). y.needs) e.0; unmet = ap (λ (y : Token). y.unmet) e.0 }) old in
          record { most = now.most; needs = now.needs; served = now.served; unserved = now.unserved; all = now.all }
      | inr old ↦ let t = h.each v k s u at old in record { most = t.most; needs = t.needs; served = t.served; unserved = t.unserved; all = t.all }
    ])

-- a timeline is finished
pub tracked_finished : (m : Mission) (b : Begun) (p : Partial) (rows : List Row) (lines : List Shown) (v : ℕ) (s : Shown) (f : Bool) → AreTracked m b p lines → slice_get lines v ≡ Some s → AreTracked m b (with_rows p 0 rows) (set lines v (record s { finished = f }))
tracked_finished m b p rows lines v s f h at =
    tracked_row m b p (with_rows p 0 rows) lines v (record s { finished = f }) h
    (λ u k. record { most = k.most; needs = k.needs; served = k.served; unserved = k.unserved; all = k.all })
    (let l = h.line v s at in record { within = l.within; joined = l.joined })
    (λ k u here. let t = h.each v k s u at here in record { most = t.most; needs = t.needs; served = t.served; unserved = t.unserved; all = t.all })
