-- What a Db has no more of than 32 bits count.
use Rattle.std.proofs.Common.{◌≡◌, ℕ, ℤ, ◌-◌, ◌<◌, ◌≤◌, true, List, [], ◌∷◌, Option, None, Some, length, map, slice_get, refl, sym, ap, ◌∙◌, length-set, arith}
use Rattle.std.proofs.lemmas.Option.{slice_get-map}
use Rattle.std.specs.Prelude.{IfNone, IfSome, option_map}
use Rattle.hs_base.specs.Bounds.{goals_of, on_some}
use Rattle.hs_base.specs.declared.mission.Goal.{Goal}
use Rattle.hs_base.specs.declared.mission.Horizon.{Horizon}
use Rattle.hs_base.specs.declared.mission.Mission.{Mission}
use Rattle.hs_base.specs.declared.plan.TokenRef.{TokenRef}
use Rattle.base_laws.proofs.MissionLemmas.{horizon_is}
use Rattle.search_tree.proofs.CellLemmas.{length-map', row_at}
use Rattle.search_tree.specs.Begun.{Begun, number}
use Rattle.search_tree.specs.Flaws.{open_needs}
use Rattle.search_tree.specs.Outset.{MayBegin}
use Rattle.search_tree.specs.Partial.{Partial, Row, begin, cells}
use Rattle.search_tree.specs.Parts.{do_part, do_parts}
use Rattle.search_tree.specs.declared.flaw.Flaw.TheVariants.{Need as NeedFlaw}
use Rattle.search_tree.specs.declared.held.Cell.{Cell}
use Rattle.search_tree.specs.declared.held.Held.{Held}
use Rattle.search_tree.specs.declared.part.Part.{Part}
use Rattle.search_tree.specs.declared.part.Part.TheVariants.{Deferred, Finished, Followed, Inserted, Joined, MetGoal, Supported}
use Rattle.stn_trail.specs.Held.{Held as Trailed}
use Rattle.timeline_db.proofs.FlawLemmas.{need_first, need_none}
use Rattle.search_laws.proofs.GoodLemmas.{good_all, good_root}
use Rattle.timeline_db.proofs.PictureLemmas.{cells-row}
use Rattle.timeline_db.proofs.TotalLemmas.{row_few}
use Rattle.timeline_db.specs.Databases.{IsDb, parts_of}
use Rattle.search_laws.specs.Good.{IsGood}
use Rattle.timeline_db.specs.Heads.{IsHead}
use Rattle.timeline_db.specs.Lines.{Shown, cell_of, row_of}
use Rattle.timeline_db.specs.Tracked.{IsLine}
use Rattle.timeline_db.specs.Waiting.{IsFirstWaitingIn}
use Rattle.timeline_db.specs.declared.board.Board.{Board}
use Rattle.timeline_db.specs.declared.course.Step.{Step}
use Rattle.timeline_db.specs.declared.token.Token.{Token}

-- parts leave the number of goals
goals_part : (p : Partial) (x : Part) → length (do_part p x).goals ≡ length p.goals
goals_part p (Inserted v i value) = refl
goals_part p (Followed v i value) = refl
goals_part p (Joined v i) = refl
goals_part p (Finished v) = refl
goals_part p (Supported t i by) = refl
goals_part p (MetGoal g by) = length-set p.goals g _
goals_part p (Deferred t i) = refl

goals_parts : (p : Partial) (xs : List Part) → length (do_parts p xs).goals ≡ length p.goals
goals_parts p [] = refl
goals_parts p (x ∷ xs) = goals_parts (do_part p x) xs ∙ goals_part p x

goals_few : (m : Mission) (b : Begun) → MayBegin m b → length (begin m b).goals ≤ 256
goals_few m b may =
    let less : number b - 1 ≡ length b.base = omega arith in
    let is : slice_get m.horizons (number b - 1) ≡ Some may.horizon = ap (slice_get m.horizons) less ∙ may.is_horizon in
    let same : length (goals_of m (number b)) ≡ length may.horizon.goals = ap (λ (o : Option Horizon). length {A = Goal} (on_some o (λ (h : Horizon). h.goals))) is in
    let few = (horizon_is m (length b.base) may.horizon may.checked.mission may.is_horizon).few_goals in
    omega (arith, same, few, length-map' (λ (g : Goal). let o : Option Held = None in o) (goals_of m (number b)))

module _ (m : Mission) (b : Begun) (tick : ℤ) (board : Board) (steps : List Step) (trail : Trailed) (d : IsDb m b tick board steps trail) where
  abbrev pub plan : Partial
  plan = do_parts (begin m b) (parts_of steps)

  pub good_db : IsGood m b plan
  good_db = good_all m b (begin m b) (parts_of steps) d.allowed (good_root m b d.begins)

  pub rows_db : map row_of board.lines.items ≡ plan.rows
  rows_db = ap (λ (p : Partial). p.rows) d.shows

  pub row_db : (v : ℕ) (s : Shown) → slice_get board.lines.items v ≡ Some s → slice_get plan.rows v ≡ Some (row_of s)
  row_db v s is = ap (λ (rs : List Row). slice_get rs v) (sym rows_db) ∙ slice_get-map row_of board.lines.items v ∙ ap (option_map row_of) is

  pub line_db : (v : ℕ) (s : Shown) → slice_get board.lines.items v ≡ Some s → IsLine s
  line_db v s is = d.tracked.line v s is

  cells_db : (v : ℕ) (s : Shown) → slice_get board.lines.items v ≡ Some s → cells (row_of s) ≡ map cell_of s.tokens
  cells_db v s is = cells-row s (line_db v s is).joined

  -- a timeline has a token, and not too many
  pub size_db : (v : ℕ) (s : Shown) → slice_get board.lines.items v ≡ Some s → (0 < length s.tokens) × (length s.tokens ≤ 128000)
  size_db v s is =
      let row = row_at b 0 v plan.rows (row_of s) good_db.sound.rows (row_db v s is) in
      let some = row.some in
      let few = row_few m b plan d.begins good_db v (row_of s) (row_db v s is) in
      let same : length (cells (row_of s)) ≡ length s.tokens = ap (λ (cs : List Cell). length cs) (cells_db v s is) ∙ length-map' cell_of s.tokens in
      (omega arith, omega arith)

  -- its first token is joined
  pub first_db : (v : ℕ) (s : Shown) (t : Token) → slice_get board.lines.items v ≡ Some s → slice_get s.tokens 0 ≡ Some t → t.joined ≡ true
  first_db v s t is here =
      let row = row_at b 0 v plan.rows (row_of s) good_db.sound.rows (row_db v s is) in
      let at : slice_get (cells (row_of s)) 0 ≡ Some (cell_of t) = ap (λ (cs : List Cell). slice_get cs 0) (cells_db v s is) ∙ slice_get-map cell_of s.tokens 0 ∙ ap (option_map cell_of) here in
      (row.first (cell_of t) at).0

  pub lines_db : length board.lines.items ≤ 128
  lines_db =
      let few = d.begins.checked.mission.few_vars in
      omega (arith, length-map' row_of board.lines.items, ap (λ (rs : List Row). length rs) rows_db, good_db.sound.one_each)

  pub goals_db : length board.goals.items ≤ 256
  goals_db = omega (arith, ap (λ (p : Partial). length p.goals) d.shows, goals_parts (begin m b) (parts_of steps), goals_few m b d.begins)

  -- the first open need
  pub need_db : (o : Option (TokenRef × ℕ)) → IsFirstWaitingIn board.lines.items o → IfSome o (λ n. IsHead (open_needs m b plan) (NeedFlaw n.0 n.1)) × IfNone o (open_needs m b plan ≡ [])
  need_db None h = (tt, need_none m b plan board.lines.items d.tracked (sym rows_db) h)
  need_db (Some n) h = (need_first m b plan board.lines.items d.tracked n.0 n.1 (sym rows_db) h, tt)
