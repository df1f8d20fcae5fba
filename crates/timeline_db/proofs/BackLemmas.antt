-- What a Db makes of a part that is taken back.
use Rattle.std.proofs.Common.{◌≡◌, ℕ, ℤ, zero, suc, ◌+◌, ◌-◌, ◌<◌, ◌≤◌, true, false, List, [], ◌∷◌, ◌++◌, None, Some, length, length-append, map, set, take, remove, slice_get, flat_map, nat_eq, refl, sym, ap, ◌∙◌, subst, inl, inr, arith, length-set}
use Rattle.std.proofs.lemmas.Bool.{cases_lt}
use Rattle.std.proofs.lemmas.Option.{slice_get-get_or, slice_get_within}
use Rattle.std.proofs.Math.Seq.{take-append_seam}
use Rattle.std.specs.List.{AllByRecursion}
use Rattle.std.specs.Prelude.{◌&&◌, ◌||◌}
use Rattle.hs_base.specs.declared.mission.Mission.{Mission}
use Rattle.hs_base.specs.declared.plan.TokenRef.{TokenRef}
use Rattle.base_laws.proofs.ListLemmas.{slice_get-middle}
use Rattle.search_tree.proofs.CellLemmas.{length-cells, length-map'}
use Rattle.search_tree.proofs.SizeLemmas.{new_changed}
use Rattle.search_tree.proofs.SoundLemmas.{at_place_here, length-at_place}
use Rattle.search_tree.proofs.UndoLemmas.{undo_done}
use Rattle.search_tree.specs.Begun.{Begun}
use Rattle.search_tree.specs.Flaws.{is_served}
use Rattle.search_tree.specs.May.{HasRoom, IsThere, MayDo}
use Rattle.search_tree.specs.Partial.{Partial, Row, begin, cells, held_by}
use Rattle.search_tree.specs.Parts.{at_place, close, do_part, do_parts, end_row, gap_cell, joined_cell, put, with_rows}
use Rattle.search_tree.specs.Undo.{go_on, part_at, take_out, undo_part, without}
use Rattle.search_tree.specs.declared.backing.Backing.{Backing}
use Rattle.search_tree.specs.declared.backing.Deferral.{Deferral}
use Rattle.search_tree.specs.declared.held.Cell.{Cell}
use Rattle.search_tree.specs.declared.held.Held.{Held}
use Rattle.search_tree.specs.declared.part.Part.{Part}
use Rattle.search_tree.specs.declared.part.Part.TheVariants.{Deferred, Finished, Followed, Inserted, Joined, MetGoal, Supported}
use Rattle.stn_trail.specs.Held.{Leaves, Held as Trailed}
use Rattle.timeline_db.proofs.DbLemmas.{course_back, length-parts, parts-push, trail-append}
use Rattle.search_laws.proofs.GoodLemmas.{allowed-front, do_parts-append, good_all, good_part, good_root}
use Rattle.timeline_db.proofs.OwnLemmas.{token_shown}
use Rattle.timeline_db.proofs.PictureLemmas.{cells-row, row-part, row-take_out, rows-set, take-remove}
use Rattle.timeline_db.proofs.ServeLemmas.{served_deferred, served_supported}
use Rattle.timeline_db.proofs.SettleLemmas.{others_same, same_tracked, tracked_earlier, tracked_kept, tracked_set, tracked_stays}
use Rattle.timeline_db.proofs.StepLemmas.{given_shown, length-put, line_shown, partial-same, shown_of, tokens_changed, tracked_finished, tracked_joined}
use Rattle.timeline_db.proofs.SupportLemmas.{picture_keeps, picture_unmet}
use Rattle.timeline_db.proofs.TrackLemmas.{from-remove, tracked_row}
use Rattle.timeline_db.specs.Boards.{ChangesRow, HasToken, KeepsRest, TakesOut, line_at, no_line, pictured, token_of}
use Rattle.timeline_db.specs.Databases.{IsCounted, IsDb, brought_by, parts_of, trail_parts}
use Rattle.search_laws.specs.Good.{AreAllowed, IsGood}
use Rattle.timeline_db.specs.Lines.{Shown, cell_of, nothing_held, row_of, with_joined}
use Rattle.timeline_db.specs.Settling.{Reopens, Unserves}
use Rattle.timeline_db.specs.Taking.{HasBehind, HasPut, Shows, TakesBack}
use Rattle.timeline_db.specs.Tracked.{AreTracked, IsLine}
use Rattle.timeline_db.specs.declared.board.Board.{Board}
use Rattle.timeline_db.specs.declared.course.Step.{Step}
use Rattle.timeline_db.specs.declared.token.Token.{Token}

-- the board shows the partial plan, with what is noted of it
pub record AreShown (m : Mission) (b : Begun) (p : Partial) (board : Board) : Type 0 where
  pub shows : pictured board ≡ p
  pub counts : IsCounted p board
  pub tracked : AreTracked m b p board.lines.items

-- one row is changed back
picture_back : (board board' : Board) (v grown : ℕ) (s : Shown) (f : Row → Row) → board'.lines.items ≡ set board.lines.items v s → KeepsRest board board' → board'.points + grown ≡ board.points → row_of s ≡ f (row_of (line_at board v))
    → pictured board' ≡ without (pictured board) grown (at_place f v (pictured board).rows)
picture_back board board' v grown s f lines rest points row =
    let less : board'.points ≡ board.points - grown = omega arith in
    partial-same (pictured board') (without (pictured board) grown (at_place f v (pictured board).rows)) (ap (map row_of) lines ∙ rows-set board.lines.items v s no_line f row) rest.supports rest.goals rest.deferred less

counted_back : (p : Partial) (board board' : Board) (v grown more : ℕ) (f : Row → Row) (r : Row) → slice_get p.rows v ≡ Some r → IsCounted (with_rows p grown (at_place f v p.rows)) board → more + board'.added ≡ board.added → more + board'.total ≡ board.total → ((q : Row) → length (f q).added ≡ more + length q.added) → ((q : Row) → (f q).given ≡ q.given) → IsCounted p board'
counted_back p board board' v grown more f r is c added total new old =
    let a = c.added in
    let t = c.total in
    record {
      added = omega (arith, new_changed f more v p.rows r is new);
      total = omega (arith, tokens_changed f more v p.rows r is (λ q. omega (arith, length-cells (f q), length-cells q, new q, ap length (old q))));
    }

-- needs are served alike
served_alike : (m : Mission) (b : Begun) (p q : Partial) (lines : List Shown) → ((x : Held) (k : ℕ) → is_served b q x k ≡ is_served b p x k) → AreTracked m b p lines → AreTracked m b q lines
served_alike m b p q lines same h = record { line = h.line; each = λ v i s t at here. same_tracked m b p q t (same t.held) (h.each v i s t at here) }

length-remove : {X : Type 0} (xs : List X) (k : ℕ) → k < length xs → suc (length (remove xs k)) ≡ length xs
length-remove [] k h = absurd (omega arith)
length-remove (x ∷ xs) zero h = refl
length-remove (x ∷ xs) (suc k) h = ap suc (length-remove xs k (omega arith))

line_removed : (s : Shown) (i : ℕ) → s.given ≤ suc i → suc i < length s.tokens → IsLine s → IsLine (record s { tokens = remove s.tokens (suc i) })
line_removed s i after place h = record {
  within = let l = length-remove s.tokens (suc i) place in omega arith;
  joined = subst (AllByRecursion (λ (t : Token). t.joined ≡ true)) (sym (take-remove s.tokens s.given (suc i) after)) h.joined;
}

length-close : (i : ℕ) (q : Row) → length (close i q).added ≡ 0 + length q.added
length-close i q = omega (arith, length-at_place (λ (x : Cell). let c : Cell = record { held = x.held; joined = true } in c) (suc i - length q.given) q.added)

-- a row of a board that shows what a change of one row made
module _ (m : Mission) (b : Begun) (p : Partial) (board : Board) (v grown : ℕ) (f : Row → Row) (r : Row) (is : slice_get p.rows v ≡ Some r) (given : (f r).given ≡ r.given) (h : AreShown m b (with_rows p grown (at_place f v p.rows)) board) where
  pub row_shown : (slice_get board.lines.items v ≡ Some (line_at board v)) × (row_of (line_at board v) ≡ f r)
  row_shown = line_shown board v (f r) (ap (λ (q : Partial). slice_get q.rows v) h.shows ∙ at_place_here f v p.rows r is)

  pub given_many : (line_at board v).given ≡ length r.given
  given_many = sym (given_shown (line_at board v) (h.tracked.line v (line_at board v) row_shown.0)) ∙ ap (λ (q : Row). length q.given) row_shown.1 ∙ ap length given

  pub tokens_many : length (line_at board v).tokens ≡ length r.given + length (f r).added
  tokens_many =
      let cells_are = ap cells (sym row_shown.1) ∙ cells-row (line_at board v) (h.tracked.line v (line_at board v) row_shown.0).joined in
      omega (arith, ap length cells_are, length-map' cell_of (line_at board v).tokens, length-cells (f r), ap length given)

-- a row is changed back
module _ (m : Mission) (b : Begun) (p : Partial) (board board' : Board) where
  put_shown : (v i grown : ℕ) (c : Cell) (r : Row) → slice_get p.rows v ≡ Some r → suc i ≤ length (cells r) → AreShown m b (with_rows p grown (at_place (put i c) v p.rows)) board → HasPut board v i grown
  put_shown v i grown c r is place h =
      let many = tokens_many m b p board v grown (put i c) r is refl h in
      let points = ap (λ (q : Partial). q.points) h.shows in
      let added = h.counts.added in
      let total = h.counts.total in
      record {
        behind = record { row = slice_get_within board.lines.items v (line_at board v) (row_shown m b p board v grown (put i c) r is refl h).0; place = omega (arith, many, length-put i c r, length-cells r) };
        points = omega arith;
        added = omega (arith, new_changed (put i c) 1 v p.rows r is (length-put i c));
        total = omega (arith, tokens_changed (put i c) 1 v p.rows r is (λ q. omega (arith, length-cells (put i c q), length-cells q, length-put i c q)));
      }

  put_back : (v i grown : ℕ) (c : Cell) (r : Row) → slice_get p.rows v ≡ Some r → length r.given ≤ suc i → suc i ≤ length (cells r) → AreShown m b (with_rows p grown (at_place (put i c) v p.rows)) board
      → without (with_rows p grown (at_place (put i c) v p.rows)) grown (at_place (take_out i) v (at_place (put i c) v p.rows)) ≡ p → TakesOut v i grown board board' → AreShown m b p board'
  put_back v i grown c r is after place h back t =
      let q = with_rows p grown (at_place (put i c) v p.rows) in
      let s = line_at board v in
      let shown = row_shown m b p board v grown (put i c) r is refl h in
      let ok = h.tracked.line v s shown.0 in
      let given = given_many m b p board v grown (put i c) r is refl h in
      let after' : s.given ≤ suc i = omega arith in
      let place' : suc i < length s.tokens = (put_shown v i grown c r is place h).behind.place in
      let added = t.added in
      let total = t.total in
      record {
        shows = picture_back board board' v grown (record s { tokens = remove s.tokens (suc i) }) (take_out i) t.lines t.rest t.points (row-take_out s ok.within i after') ∙ ap (λ (z : Partial). without z grown (at_place (take_out i) v z.rows)) h.shows ∙ back;
        counts = counted_back p board board' v grown 1 (put i c) r is h.counts (omega arith) (omega arith) (length-put i c) (λ q. refl);
        tracked = subst (AreTracked m b p) (sym t.lines) (tracked_row m b q p board.lines.items v (record s { tokens = remove s.tokens (suc i) }) h.tracked (λ u k. same_tracked m b q p u (λ j. refl) k) (line_removed s i after' place' ok)
            (λ j u here. let f = from-remove s.tokens (suc i) u j here in same_tracked m b q p u (λ k. refl) (h.tracked.each v f.0 s u shown.0 f.1)));
      }

  joined_shown : (v i : ℕ) (r : Row) (d : Cell) → slice_get p.rows v ≡ Some r → slice_get (cells r) (suc i) ≡ Some d → AreShown m b (with_rows p 0 (at_place (close i) v p.rows)) board → HasBehind board v i
  joined_shown v i r d is here h =
      let many = tokens_many m b p board v 0 (close i) r is refl h in
      record { row = slice_get_within board.lines.items v (line_at board v) (row_shown m b p board v 0 (close i) r is refl h).0; place = omega (arith, many, length-close i r, length-cells r, slice_get_within (cells r) (suc i) d here) }

  joined_back : (v i : ℕ) (r : Row) (d : Cell) → slice_get p.rows v ≡ Some r → length r.given ≤ suc i → slice_get (cells r) (suc i) ≡ Some d → AreShown m b (with_rows p 0 (at_place (close i) v p.rows)) board
      → without (with_rows p 0 (at_place (close i) v p.rows)) 0 (at_place (part_at i) v (at_place (close i) v p.rows)) ≡ p → ChangesRow v (with_joined (suc i) false (line_at board v)) board board' → AreShown m b p board'
  joined_back v i r d is after here h back c =
      let q = with_rows p 0 (at_place (close i) v p.rows) in
      let s = line_at board v in
      let shown = row_shown m b p board v 0 (close i) r is refl h in
      let ok = h.tracked.line v s shown.0 in
      let given = given_many m b p board v 0 (close i) r is refl h in
      let after' : s.given ≤ suc i = omega arith in
      let points = c.points in
      let added = c.added in
      let total = c.total in
      record {
        shows = picture_back board board' v 0 (with_joined (suc i) false s) (part_at i) c.lines c.rest (omega arith) (row-part s ok.within i after') ∙ ap (λ (z : Partial). without z 0 (at_place (part_at i) v z.rows)) h.shows ∙ back;
        counts = counted_back p board board' v 0 0 (close i) r is h.counts (omega arith) (omega arith) (length-close i) (λ q. refl);
        tracked = subst (AreTracked m b p) (sym c.lines) (served_alike m b (with_rows q 0 p.rows) p (set board.lines.items v (with_joined (suc i) false s)) (λ x k. refl) (tracked_joined m b q p.rows board.lines.items v i s false h.tracked shown.0 after' (joined_shown v i r d is here h).place));
      }

  finished_back : (v : ℕ) (r : Row) → slice_get p.rows v ≡ Some r → AreShown m b (with_rows p 0 (at_place end_row v p.rows)) board
      → without (with_rows p 0 (at_place end_row v p.rows)) 0 (at_place go_on v (at_place end_row v p.rows)) ≡ p → ChangesRow v (record (line_at board v) { finished = false }) board board' → AreShown m b p board'
  finished_back v r is h back c =
      let q = with_rows p 0 (at_place end_row v p.rows) in
      let s = line_at board v in
      let shown = row_shown m b p board v 0 end_row r is refl h in
      let points = c.points in
      let added = c.added in
      let total = c.total in
      record {
        shows = picture_back board board' v 0 (record s { finished = false }) go_on c.lines c.rest (omega arith) refl ∙ ap (λ (z : Partial). without z 0 (at_place go_on v z.rows)) h.shows ∙ back;
        counts = counted_back p board board' v 0 0 end_row r is h.counts (omega arith) (omega arith) (λ q. omega arith) (λ q. refl);
        tracked = subst (AreTracked m b p) (sym c.lines) (served_alike m b (with_rows q 0 p.rows) p (set board.lines.items v (record s { finished = false })) (λ x k. refl) (tracked_finished m b q p.rows board.lines.items v s false h.tracked shown.0));
      }

-- need j of a token is open again, which q settles too
module _ (m : Mission) (b : Begun) (p q : Partial) (fine : IsGood m b q) (t : TokenRef) (j : ℕ) (old new : Board) (rows : map row_of old.lines.items ≡ q.rows) (h : AreTracked m b q old.lines.items) (has : HasToken old t)
    (one : (y : Held) (k : ℕ) → is_served b q y k ≡ (is_served b p y k || (nat_eq (token_of old t).held.stop y.stop && nat_eq j k))) (c : Reopens t j old new) where
  own_line : slice_get old.lines.items t.sv.0 ≡ Some (line_at old t.sv.0)
  own_line = slice_get-get_or old.lines.items t.sv.0 no_line has.row

  own_token : slice_get (line_at old t.sv.0).tokens t.place ≡ Some (token_of old t)
  own_token = slice_get-get_or (line_at old t.sv.0).tokens t.place nothing_held has.place

  reopened_tracked : is_served b p (token_of old t).held j ≡ false → AreTracked m b p new.lines.items
  reopened_tracked is_open =
      let own = h.each t.sv.0 t.place (line_at old t.sv.0) (token_of old t) own_line own_token in
      let other : (y : Held) → ((token_of old t).held.stop ≡ y.stop → ⊥) → (k : ℕ) → is_served b p y k ≡ is_served b q y k = λ y apart k. sym (others_same m b p q (token_of old t).held.stop j one y apart k) in
      elim (cases_lt j (token_of old t).unmet) [
        | inl less ↦
            subst (AreTracked m b p) (sym (c.earlier less).lines)
            (tracked_set m b q fine.sound fine.apart old.lines.items rows h.line p h t.sv.0 t.place (line_at old t.sv.0) (token_of old t) own_line own_token other j
            (tracked_earlier m b p q (token_of old t).held.stop j one (token_of old t) own is_open less))
        | inr more ↦
            subst (λ (d : Board). AreTracked m b p d.lines.items) (sym (c.same more))
            (tracked_kept m b q fine.sound fine.apart old.lines.items rows h.line p h t.sv.0 t.place (line_at old t.sv.0) (token_of old t) own_line own_token other
            (tracked_stays m b p q (token_of old t).held.stop j one (token_of old t) own more))
      ]

  reopened_shows : (r : Partial) → pictured old ≡ r → pictured new ≡ r
  reopened_shows r e = elim (cases_lt j (token_of old t).unmet) [ inl less ↦ picture_unmet old new t.sv.0 t.place j (c.earlier less) ∙ e | inr more ↦ ap pictured (c.same more) ∙ e ]

  reopened_counts : (r : Partial) → IsCounted r old → IsCounted r new
  reopened_counts r k = elim (cases_lt j (token_of old t).unmet) [
    | inl less ↦ let l = c.earlier less in record { added = l.added ∙ k.added; total = l.total ∙ k.total }
    | inr more ↦ subst (IsCounted r) (sym (c.same more)) k
  ]

-- a part that was done is taken back
module _ (m : Mission) (b : Begun) (p : Partial) (fine : IsGood m b p) (board board' : Board) where
  unserved_back : (x : Part) (t : TokenRef) (j : ℕ) (supports : List Backing) (deferred : List Deferral) → MayDo m b p x → HasRoom b p x → (do_part p x).rows ≡ p.rows
      → ((y : Held) (k : ℕ) → is_served b (do_part p x) y k ≡ (is_served b p y k || (nat_eq (held_by p t).stop y.stop && nat_eq j k)))
      → IsThere p t → is_served b p (held_by p t) j ≡ false → AreShown m b (do_part p x) board
      → (record { rows = (pictured board).rows; supports = supports; goals = board.goals.items; deferred = deferred; points = board.points }) ≡ p
      → Unserves t j supports deferred board board' → AreShown m b p board'
  unserved_back x t j supports deferred may room rows one there yet h back c =
      let q = do_part p x in
      let fine' = good_part m b p x may room fine in
      let without_it = c.without_it in
      let shows : pictured without_it ≡ p = picture_keeps board without_it supports board.goals.items deferred c.keeps ∙ back in
      let tracked : AreTracked m b q without_it.lines.items = subst (AreTracked m b q) (sym c.keeps.lines) h.tracked in
      let at = token_shown without_it p shows tracked.line t there in
      let rows_are : map row_of without_it.lines.items ≡ q.rows = ap (λ (r : Partial). r.rows) shows ∙ sym rows in
      let one' : (y : Held) (k : ℕ) → is_served b q y k ≡ (is_served b p y k || (nat_eq (token_of without_it t).held.stop y.stop && nat_eq j k)) =
      λ y k. one y k ∙ ap (λ (z : Held). is_served b p y k || (nat_eq z.stop y.stop && nat_eq j k)) at.1 in
      let counts : IsCounted p without_it = record {
        added = c.keeps.added ∙ h.counts.added ∙ ap (λ (rs : List Row). length (flat_map (λ (r : Row). r.added) rs)) rows;
        total = c.keeps.total ∙ h.counts.total ∙ ap (λ (rs : List Row). length (flat_map cells rs)) rows;
      } in
      record {
        shows = reopened_shows m b p q fine' t j without_it board' rows_are tracked at.0 one' c.reopens p shows;
        counts = reopened_counts m b p q fine' t j without_it board' rows_are tracked at.0 one' c.reopens p counts;
        tracked = reopened_tracked m b p q fine' t j without_it board' rows_are tracked at.0 one' c.reopens (subst (λ (z : Held). is_served b p z j ≡ false) at.1 yet);
      }

  taken_back : (x : Part) → MayDo m b p x → HasRoom b p x → AreShown m b (do_part p x) board → TakesBack x board board' → AreShown m b p board'
  taken_back (Inserted v i value) may room h c = put_back m b p board board' v.0 i 2 (gap_cell p v.0 value.0) may.row may.is_row may.slot.after may.slot.place h (undo_done m b p (Inserted v i value) may) c
  taken_back (Followed v i value) may room h c = put_back m b p board board' v.0 i 1 (joined_cell p v.0 i value.0) may.insert.row may.insert.is_row may.insert.slot.after may.insert.slot.place h (undo_done m b p (Followed v i value) may) c
  taken_back (Joined v i) may room h c = joined_back m b p board board' v.0 i may.row may.cell may.is_row may.after may.here h (undo_done m b p (Joined v i) may) c
  taken_back (Finished v) may room h c = finished_back m b p board board' v.0 may.row may.is_row h (undo_done m b p (Finished v) may) c
  taken_back (Supported t j by) may room h c =
      unserved_back (Supported t j by) t j (take (length board.supports.items - 1) board.supports.items) board.deferred.items may room refl (served_supported b p t j by) may.token may.yet h (ap (λ (z : Partial). undo_part z (Supported t j by)) h.shows ∙ undo_done m b p (Supported t j by) may) c
  taken_back (MetGoal g by) may room h k =
      let q = do_part p (MetGoal g by) in
      record {
        shows = picture_keeps board board' board.supports.items (set board.goals.items g None) board.deferred.items k ∙ ap (λ (z : Partial). undo_part z (MetGoal g by)) h.shows ∙ undo_done m b p (MetGoal g by) may;
        counts = record { added = k.added ∙ h.counts.added; total = k.total ∙ h.counts.total };
        tracked = subst (AreTracked m b p) (sym k.lines) (served_alike m b q p board.lines.items (λ x i. refl) h.tracked);
      }
  taken_back (Deferred t j) may room h c =
      unserved_back (Deferred t j) t j board.supports.items (take (length board.deferred.items - 1) board.deferred.items) may room refl (served_deferred b p t j) may.token may.yet h (ap (λ (z : Partial). undo_part z (Deferred t j)) h.shows ∙ undo_done m b p (Deferred t j) may) c

  token_kept : (q : Partial) (t : TokenRef) → q.rows ≡ p.rows → IsThere p t → AreShown m b q board → HasToken board t
  token_kept q t rows h shown = (token_shown board q shown.shows shown.tracked.line t (record { row = h.row; is_row = ap (λ (rs : List Row). slice_get rs t.sv.0) rows ∙ h.is_row; cell = h.cell; here = h.here })).0

  part_shown : (x : Part) → MayDo m b p x → AreShown m b (do_part p x) board → Shows x board
  part_shown (Inserted v i value) may h = put_shown m b p board board' v.0 i 2 (gap_cell p v.0 value.0) may.row may.is_row may.slot.place h
  part_shown (Followed v i value) may h = put_shown m b p board board' v.0 i 1 (joined_cell p v.0 i value.0) may.insert.row may.insert.is_row may.insert.slot.place h
  part_shown (Joined v i) may h = joined_shown m b p board board' v.0 i may.row may.cell may.is_row may.here h
  part_shown (Finished v) may h = slice_get_within board.lines.items v.0 (line_at board v.0) (row_shown m b p board v.0 0 end_row may.row may.is_row refl h).0
  part_shown (Supported t j by) may h = token_kept (do_part p (Supported t j by)) t refl may.token h
  part_shown (MetGoal g by) may h =
      let size = length-set p.goals g (Some (held_by p by)) in
      let shown = ap (λ (r : Partial). length r.goals) h.shows in
      omega (arith, slice_get_within p.goals g None may.yet)
  part_shown (Deferred t j) may h = token_kept (do_part p (Deferred t j)) t refl may.token h

-- the last part of a Db
module _ (m : Mission) (b : Begun) (tick : ℤ) (board : Board) (front : List Step) (s : Step) (trail : Trailed) (d : IsDb m b tick board (front ++ s ∷ []) trail) where
  abbrev before : Partial
  before = shown_of m b front

  now : shown_of m b (front ++ s ∷ []) ≡ do_part before s.part
  now = ap (do_parts (begin m b)) (parts-push front s) ∙ do_parts-append (begin m b) (parts_of front) (s.part ∷ [])

  allowed : AreAllowed m b (begin m b) (parts_of front) × AreAllowed m b before (s.part ∷ [])
  allowed = allowed-front m b (begin m b) (parts_of front) (s.part ∷ []) (subst (AreAllowed m b (begin m b)) (parts-push front s) d.allowed)

  fine : IsGood m b before
  fine = good_all m b (begin m b) (parts_of front) allowed.0 (good_root m b d.begins)

  shown : AreShown m b (do_part before s.part) board
  shown = subst (λ (p : Partial). AreShown m b p board) now (record { shows = d.shows; counts = d.counts; tracked = d.tracked })

  -- what it changed is there
  pub last_shown : Shows s.part board
  last_shown = part_shown m b before fine board board s.part allowed.1.0.0 shown

  -- and it stands behind its place in the trail
  pub last_mark : s.mark ≤ length trail.parts
  last_mark =
      let front_is : take (length front) (parts_of (front ++ s ∷ [])) ≡ parts_of front = ap (take (length front)) (parts-push front s) ∙ ap (λ (n : ℕ). take n (parts_of front ++ s.part ∷ [])) (sym (length-parts front)) ∙ take-append_seam (parts_of front) (s.part ∷ []) in
      let mark = d.course.marks (length front) s (slice_get-middle front s []) ∙ ap (λ (xs : List Part). length (trail_parts m b xs)) front_is in
      let all = ap length (d.course.parts ∙ ap (trail_parts m b) (parts-push front s) ∙ trail-append m b (parts_of front) (s.part ∷ [])) in
      omega (arith, mark, all, length-append (trail_parts m b (parts_of front)) (brought_by m b before (s.part ∷ [])))

  -- without it
  pub db_back : (board' : Board) (trail' : Trailed) → TakesBack s.part board board' → Leaves s.mark trail trail' → IsDb m b tick board' front trail'
  db_back board' trail' c leaves =
      let left = taken_back m b before fine board board' s.part allowed.1.0.0 allowed.1.0.1 shown c in
      record {
        begins = d.begins;
        horizon = d.horizon;
        allowed = allowed.0;
        shows = left.shows;
        counts = left.counts;
        tracked = left.tracked;
        course = course_back m b front s trail trail' d.course leaves;
      }
