-- What a Db makes of a need that is served or left, and of a goal that is met.
use Rattle.std.proofs.Common.{◌≡◌, ℕ, ℤ, ◌<◌, false, List, [], ◌∷◌, ◌++◌, Option, Some, length, map, set, get_or, slice_get, flat_map, nat_eq, refl, sym, ap, ◌∙◌, subst, inl, inr, arith}
use Rattle.std.proofs.lemmas.Bool.{cases_eq}
use Rattle.std.proofs.lemmas.Option.{slice_get_within}
use Rattle.std.specs.Prelude.{◌&&◌, ◌||◌}
use Rattle.hs_base.specs.Needs.{needs_of}
use Rattle.hs_base.specs.declared.mission.Mission.{Mission}
use Rattle.hs_base.specs.declared.plan.TokenRef.{TokenRef}
use Rattle.search_tree.specs.Begun.{Begun}
use Rattle.search_tree.specs.Flaws.{is_served}
use Rattle.search_tree.specs.May.{HasRoom, IsThere, MayDo}
use Rattle.search_tree.specs.Outset.{MayBegin}
use Rattle.search_tree.specs.Partial.{Partial, Row, cells, held_by}
use Rattle.search_tree.specs.Parts.{do_part, grown_by}
use Rattle.search_tree.specs.declared.backing.Backing.{Backing}
use Rattle.search_tree.specs.declared.backing.Deferral.{Deferral}
use Rattle.search_tree.specs.declared.held.Held.{Held}
use Rattle.search_tree.specs.declared.part.Part.{Part}
use Rattle.search_tree.specs.declared.part.Part.TheVariants.{Deferred, MetGoal, Supported}
use Rattle.stn_trail.specs.Held.{Held as Trailed}
use Rattle.timeline_db.proofs.FactLemmas.{good}
use Rattle.search_laws.proofs.GoodLemmas.{good_part}
use Rattle.timeline_db.proofs.OwnLemmas.{line_is, served_at, token_is, token_shown}
use Rattle.timeline_db.proofs.PictureLemmas.{row-unmet, rows-still}
use Rattle.timeline_db.proofs.ServeLemmas.{served_deferred, served_supported}
use Rattle.timeline_db.proofs.SettleLemmas.{need_counted, others_same, same_tracked, tracked_kept, tracked_later, tracked_set, tracked_still}
use Rattle.timeline_db.proofs.StepLemmas.{db_done, partial-same, shown_of}
use Rattle.timeline_db.specs.Boards.{ChangesRow, HasToken, line_at, no_line, pictured, token_of}
use Rattle.timeline_db.specs.Courses.{Gains, parts_with}
use Rattle.timeline_db.specs.Databases.{IsCounted, IsDb}
use Rattle.search_laws.specs.Good.{IsGood}
use Rattle.timeline_db.specs.Kept.{kept_bounds}
use Rattle.timeline_db.specs.Lines.{Shown, nothing_held, row_of, with_unmet}
use Rattle.timeline_db.specs.Settling.{KeepsRows, Serves, Settles}
use Rattle.timeline_db.specs.Tracked.{AreTracked}
use Rattle.timeline_db.specs.declared.board.Board.{Board}
use Rattle.timeline_db.specs.declared.course.Step.{Step}
use Rattle.timeline_db.specs.declared.token.Token.{Token}

-- the partial plan of a board whose rows stay
pub picture_keeps : (old new : Board) (supports : List Backing) (goals : List (Option Held)) (deferred : List Deferral) → KeepsRows supports goals deferred old new
    → pictured new ≡ record { rows = (pictured old).rows; supports = supports; goals = goals; deferred = deferred; points = (pictured old).points }
picture_keeps old new supports goals deferred k = partial-same (pictured new) (record { rows = (pictured old).rows; supports = supports; goals = goals; deferred = deferred; points = (pictured old).points }) (ap (map row_of) k.lines) k.supports k.goals k.deferred k.points

-- what is noted of needs is no part of it
pub picture_unmet : (old new : Board) (v i n : ℕ) → ChangesRow v (with_unmet i n (line_at old v)) old new → pictured new ≡ pictured old
picture_unmet old new v i n c =
    partial-same (pictured new) (pictured old) (ap (map row_of) c.lines ∙ rows-still old.lines.items v (with_unmet i n (line_at old v)) no_line (row-unmet (line_at old v) i n)) c.rest.supports c.rest.goals c.rest.deferred c.points

-- the same rows have the same tokens
pub has_same : (old new : Board) (t : TokenRef) → new.lines.items ≡ old.lines.items → HasToken old t → HasToken new t
has_same old new t e h = record {
  row = subst (λ (l : List Shown). t.sv.0 < length l) (sym e) h.row;
  place = subst (λ (l : List Shown). t.place < length (get_or l t.sv.0 no_line).tokens) (sym e) h.place;
}

pub token_same : (old new : Board) (t : TokenRef) → new.lines.items ≡ old.lines.items → token_of new t ≡ token_of old t
token_same old new t e = ap (λ (l : List Shown). get_or (get_or l t.sv.0 no_line).tokens t.place nothing_held) e

-- q is the partial plan in which need j of a token is served too
module _ (m : Mission) (b : Begun) (begins : MayBegin m b) (p q : Partial) (fine : IsGood m b p) (fine' : IsGood m b q) (rows : q.rows ≡ p.rows) (t : TokenRef) (j : ℕ) (old new : Board) (shows : pictured old ≡ q) (h : AreTracked m b p old.lines.items) (has : HasToken old t)
    (one : (y : Held) (k : ℕ) → is_served b q y k ≡ (is_served b p y k || (nat_eq (token_of old t).held.stop y.stop && nat_eq j k))) (c : Settles b.base t j old new) where
  rows_are : map row_of old.lines.items ≡ p.rows
  rows_are = ap (λ (r : Partial). r.rows) shows ∙ rows

  own_line : slice_get old.lines.items t.sv.0 ≡ Some (line_at old t.sv.0)
  own_line = line_is m b begins q fine'.sound fine'.apart old shows h.line t has

  own_token : slice_get (line_at old t.sv.0).tokens t.place ≡ Some (token_of old t)
  own_token = token_is m b begins q fine'.sound fine'.apart old shows h.line t has

  pub settled_tracked : j < (token_of old t).needs → AreTracked m b q new.lines.items
  settled_tracked less =
      let own = h.each t.sv.0 t.place (line_at old t.sv.0) (token_of old t) own_line own_token in
      let same = others_same m b p q (token_of old t).held.stop j one in
      elim (cases_eq (token_of old t).unmet j) [
        | inl e ↦
            let l = c.later e in
            let f = l.1 in
            let at = served_at m b begins q fine'.sound fine'.apart old shows h.line t has in
            subst (AreTracked m b q) (sym l.2.lines)
            (tracked_set m b p fine.sound fine.apart old.lines.items rows_are h.line q h t.sv.0 t.place (line_at old t.sv.0) (token_of old t) own_line own_token same l.0
            (tracked_later m b p q (token_of old t).held.stop j one (token_of old t) l.0 refl own e less f.low (f.most (omega arith)) (λ k low high. sym (at k) ∙ f.served k low high) (λ some. sym (at l.0) ∙ f.unserved some)))
        | inr other ↦
            subst (λ (d : Board). AreTracked m b q d.lines.items) (sym (c.same other))
            (tracked_kept m b p fine.sound fine.apart old.lines.items rows_are h.line q h t.sv.0 t.place (line_at old t.sv.0) (token_of old t) own_line own_token same
            (tracked_still m b p q (token_of old t).held.stop j one (token_of old t) own other))
      ]

  pub settled_shows : pictured new ≡ q
  settled_shows = elim (cases_eq (token_of old t).unmet j) [
    | inl e ↦ let l = c.later e in picture_unmet old new t.sv.0 t.place l.0 l.2 ∙ shows
    | inr other ↦ ap pictured (c.same other) ∙ shows
  ]

  pub settled_counts : IsCounted q old → IsCounted q new
  settled_counts k = elim (cases_eq (token_of old t).unmet j) [
    | inl e ↦ let l = c.later e in record { added = l.2.added ∙ k.added; total = l.2.total ∙ k.total }
    | inr other ↦ subst (IsCounted q) (sym (c.same other)) k
  ]

module _ (m : Mission) (b : Begun) (tick : ℤ) (board board' : Board) (steps steps' : List Step) (trail trail' : Trailed) (d : IsDb m b tick board steps trail) where
  abbrev p : Partial
  p = shown_of m b steps

  token_there : (t : TokenRef) → IsThere p t → HasToken board t × (held_by p t ≡ (token_of board t).held)
  token_there t h = token_shown board p d.shows d.tracked.line t h

  -- a need is served or left
  db_settled : (x : Part) (t : TokenRef) (j : ℕ) (supports : List Backing) (deferred : List Deferral) → MayDo m b p x → HasRoom b p x → (do_part p x).rows ≡ p.rows → Gains (parts_with (grown_by x) (kept_bounds m b p x)) trail trail' → steps' ≡ steps ++ record { part = x; mark = length trail.parts } ∷ []
      → (record { rows = p.rows; supports = supports; goals = p.goals; deferred = deferred; points = p.points }) ≡ do_part p x
      → ((y : Held) (k : ℕ) → is_served b (do_part p x) y k ≡ (is_served b p y k || (nat_eq (held_by p t).stop y.stop && nat_eq j k)))
      → IsThere p t → j < length (needs_of m (held_by p t).kind) → is_served b p (held_by p t) j ≡ false
      → Serves b.base t j supports deferred board board' → IsDb m b tick board' steps' trail'
  db_settled x t j supports deferred may room rows gains is does one there less yet c =
      let q = do_part p x in
      let fine = good m b tick board steps trail d in
      let fine' = good_part m b p x may room fine in
      let at = token_there t there in
      let with_it = c.with_it in
      let has = has_same board with_it t c.keeps.lines at.0 in
      let held : (token_of with_it t).held ≡ held_by p t = ap (λ (u : Token). u.held) (token_same board with_it t c.keeps.lines) ∙ sym at.1 in
      let tracked : AreTracked m b p with_it.lines.items = subst (AreTracked m b p) (sym c.keeps.lines) d.tracked in
      let shows : pictured with_it ≡ q =
      picture_keeps board with_it supports board.goals.items deferred c.keeps
      ∙ ap (λ (r : Partial). let z : Partial = record { rows = r.rows; supports = supports; goals = r.goals; deferred = deferred; points = r.points } in z) d.shows
      ∙ does in
      let one' : (y : Held) (k : ℕ) → is_served b q y k ≡ (is_served b p y k || (nat_eq (token_of with_it t).held.stop y.stop && nat_eq j k)) =
      λ y k. one y k ∙ ap (λ (z : Held). is_served b p y k || (nat_eq z.stop y.stop && nat_eq j k)) (sym held) in
      let own = tracked.each t.sv.0 t.place (line_at with_it t.sv.0) (token_of with_it t) (own_line m b d.begins p q fine fine' rows t j with_it board' shows tracked has one' c.settles) (own_token m b d.begins p q fine fine' rows t j with_it board' shows tracked has one' c.settles) in
      let counted : j < (token_of with_it t).needs = need_counted m b p (token_of with_it t) j own (subst (λ (z : Held). j < length (needs_of m z.kind)) (sym held) less) (subst (λ (z : Held). is_served b p z j ≡ false) (sym held) yet) in
      let counts : IsCounted q with_it = record {
        added = c.keeps.added ∙ d.counts.added ∙ ap (λ (rs : List Row). length (flat_map (λ (r : Row). r.added) rs)) (sym rows);
        total = c.keeps.total ∙ d.counts.total ∙ ap (λ (rs : List Row). length (flat_map cells rs)) (sym rows);
      } in
      db_done m b tick board board' steps steps' trail trail' x d may room gains is
      (settled_shows m b d.begins p q fine fine' rows t j with_it board' shows tracked has one' c.settles)
      (settled_counts m b d.begins p q fine fine' rows t j with_it board' shows tracked has one' c.settles counts)
      (settled_tracked m b d.begins p q fine fine' rows t j with_it board' shows tracked has one' c.settles counted)

  -- a need is served
  pub db_supported : (t : TokenRef) (j : ℕ) (by : TokenRef) → MayDo m b p (Supported t j by) → Gains (parts_with 0 (kept_bounds m b p (Supported t j by))) trail trail' → steps' ≡ steps ++ record { part = Supported t j by; mark = length trail.parts } ∷ []
      → Serves b.base t j (board.supports.items ++ record { token = (token_of board t).held; need = j; by = (token_of board by).held } ∷ []) board.deferred.items board board' → IsDb m b tick board' steps' trail'
  db_supported t j by may gains is c =
      let supports = board.supports.items ++ record { token = (token_of board t).held; need = j; by = (token_of board by).held } ∷ [] in
      let does : (record { rows = p.rows; supports = supports; goals = p.goals; deferred = board.deferred.items; points = p.points }) ≡ do_part p (Supported t j by) =
      ap (λ (z : Held). let r : Partial = record { rows = p.rows; supports = board.supports.items ++ record { token = z; need = j; by = (token_of board by).held } ∷ []; goals = p.goals; deferred = board.deferred.items; points = p.points } in r) (sym (token_there t may.token).1)
      ∙ ap (λ (z : Held). let r : Partial = record { rows = p.rows; supports = board.supports.items ++ record { token = held_by p t; need = j; by = z } ∷ []; goals = p.goals; deferred = board.deferred.items; points = p.points } in r) (sym (token_there by may.server).1)
      ∙ ap (λ (q : Partial). let r : Partial = record { rows = p.rows; supports = q.supports ++ record { token = held_by p t; need = j; by = held_by p by } ∷ []; goals = p.goals; deferred = q.deferred; points = p.points } in r) d.shows in
      db_settled (Supported t j by) t j supports board.deferred.items may tt refl gains is does (served_supported b p t j by) may.token (slice_get_within (needs_of m (held_by p t).kind) j may.need may.is_need) may.yet c

  -- or left
  pub db_deferred : (t : TokenRef) (j : ℕ) → MayDo m b p (Deferred t j) → Gains (parts_with 0 (kept_bounds m b p (Deferred t j))) trail trail' → steps' ≡ steps ++ record { part = Deferred t j; mark = length trail.parts } ∷ []
      → Serves b.base t j board.supports.items (board.deferred.items ++ record { stop = (token_of board t).held.stop; need = j } ∷ []) board board' → IsDb m b tick board' steps' trail'
  db_deferred t j may gains is c =
      let deferred = board.deferred.items ++ record { stop = (token_of board t).held.stop; need = j } ∷ [] in
      let does : (record { rows = p.rows; supports = board.supports.items; goals = p.goals; deferred = deferred; points = p.points }) ≡ do_part p (Deferred t j) =
      ap (λ (z : Held). let r : Partial = record { rows = p.rows; supports = board.supports.items; goals = p.goals; deferred = board.deferred.items ++ record { stop = z.stop; need = j } ∷ []; points = p.points } in r) (sym (token_there t may.token).1)
      ∙ ap (λ (q : Partial). let r : Partial = record { rows = p.rows; supports = q.supports; goals = p.goals; deferred = q.deferred ++ record { stop = (held_by p t).stop; need = j } ∷ []; points = p.points } in r) d.shows in
      db_settled (Deferred t j) t j board.supports.items deferred may tt refl gains is does (served_deferred b p t j) may.token (slice_get_within (needs_of m (held_by p t).kind) j may.need may.is_need) may.yet c

  -- a goal has its token
  pub db_met : (g : ℕ) (by : TokenRef) → MayDo m b p (MetGoal g by) → Gains (parts_with 0 (kept_bounds m b p (MetGoal g by))) trail trail' → steps' ≡ steps ++ record { part = MetGoal g by; mark = length trail.parts } ∷ []
      → KeepsRows board.supports.items (set board.goals.items g (Some (token_of board by).held)) board.deferred.items board board' → IsDb m b tick board' steps' trail'
  db_met g by may gains is k =
      let q = do_part p (MetGoal g by) in
      let shows : pictured board' ≡ q =
      picture_keeps board board' board.supports.items (set board.goals.items g (Some (token_of board by).held)) board.deferred.items k
      ∙ ap (λ (z : Held). let r : Partial = record { rows = (pictured board).rows; supports = board.supports.items; goals = set board.goals.items g (Some z); deferred = board.deferred.items; points = board.points } in r) (sym (token_there by may.server).1)
      ∙ ap (λ (r : Partial). let z : Partial = record { rows = r.rows; supports = r.supports; goals = set r.goals g (Some (held_by p by)); deferred = r.deferred; points = r.points } in z) d.shows in
      let tracked : AreTracked m b q board.lines.items = record { line = d.tracked.line; each = λ v i s t at here. same_tracked m b p q t (λ i. refl) (d.tracked.each v i s t at here) } in
      db_done m b tick board board' steps steps' trail trail' (MetGoal g by) d may tt gains is shows (record { added = k.added ∙ d.counts.added; total = k.total ∙ d.counts.total }) (subst (AreTracked m b q) (sym k.lines) tracked)
