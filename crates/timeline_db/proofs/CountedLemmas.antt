-- How many tokens and points there are where a search begins.
use Rattle.std.proofs.Common.{◌≡◌, ℕ, ℤ, zero, suc, ◌+◌, ◌-◌, ◌≤◌, true, List, [], ◌∷◌, Option, None, Some, length, drop, map, flat_map, replicate, slice_get, refl, sym, ap, ◌∙◌, length-append, arith}
use Rattle.std.proofs.lemmas.Option.{slice_get-get_or}
use Rattle.hs_base.specs.Bounds.{goals_of, on_some}
use Rattle.hs_base.specs.Points.{count}
use Rattle.hs_base.specs.Schedule.{numbers_from}
use Rattle.hs_base.specs.declared.mission.Goal.{Goal}
use Rattle.hs_base.specs.declared.mission.Mission.{Mission}
use Rattle.hs_base.specs.declared.mission.Var.{Var}
use Rattle.hs_base.specs.declared.plan.Extension.{Extension}
use Rattle.hs_base.specs.declared.plan.Time.{Time}
use Rattle.search_tree.proofs.CellLemmas.{length-cells, length-map', stub_count}
use Rattle.search_tree.proofs.SizeLemmas.{few_new_root}
use Rattle.search_tree.specs.Begun.{Begun, number, stub}
use Rattle.search_tree.specs.Outset.{MayBegin}
use Rattle.search_tree.specs.Partial.{Row, begin, cells, first_cells, first_row}
use Rattle.search_tree.specs.Resolvers.{new_tokens, tokens}
use Rattle.search_tree.specs.declared.held.Cell.{Cell}
use Rattle.search_tree.specs.declared.held.Held.{Held}
use Rattle.timeline_db.proofs.PictureLemmas.{given_length}
use Rattle.search_laws.proofs.GoodLemmas.{good_root}
use Rattle.timeline_db.proofs.StepLemmas.{partial-same}
use Rattle.timeline_db.proofs.TotalLemmas.{all_few}
use Rattle.timeline_db.specs.Boards.{pictured}
use Rattle.timeline_db.specs.Laying.{AreOutset}
use Rattle.timeline_db.specs.Lines.{Shown, cell_of, row_of}
use Rattle.timeline_db.specs.Tracked.{IsLine}
use Rattle.timeline_db.specs.declared.board.Board.{Board}

length-dropped : {X : Type 0} (n : ℕ) (xs : List X) → length (drop n xs) ≡ length xs - n
length-dropped zero xs = omega arith
length-dropped (suc n) [] = omega arith
length-dropped (suc n) (x ∷ xs) = length-dropped n xs ∙ omega arith

-- the new tokens of lines are those of their rows
pub new_counted : (lines : List Shown) → length (flat_map (λ (s : Shown). drop s.given s.tokens) lines) ≡ length (flat_map (λ (r : Row). r.added) (map row_of lines))
new_counted [] = refl
new_counted (s ∷ lines) =
    omega (
      arith,
      length-append (drop s.given s.tokens) (flat_map (λ (s : Shown). drop s.given s.tokens) lines),
      length-append (map cell_of (drop s.given s.tokens)) (flat_map (λ (r : Row). r.added) (map row_of lines)),
      length-map' cell_of (drop s.given s.tokens),
      new_counted lines,
    )

-- and so are all tokens
pub all_counted : (lines : List Shown) → ((v : ℕ) (s : Shown) → slice_get lines v ≡ Some s → IsLine s) → length (flat_map (λ (s : Shown). s.tokens) lines) ≡ length (flat_map cells (map row_of lines))
all_counted [] h = refl
all_counted (s ∷ lines) h =
    let line = h 0 s refl in
    omega (
      arith,
      length-append s.tokens (flat_map (λ (s : Shown). s.tokens) lines),
      length-append (cells (row_of s)) (flat_map cells (map row_of lines)),
      length-cells (row_of s),
      given_length s line.within,
      length-map' cell_of (drop s.given s.tokens),
      length-dropped s.given s.tokens,
      all_counted lines (λ v q is. h (suc v) q is),
    )

-- the new tokens: a first one of each variable, or none
new_first : (m : Mission) (since : ℤ) (fixed : List Time) (w n : ℕ) → w + n ≤ length m.vars → length (flat_map (λ (r : Row). r.added) (map (first_row m (record { base = []; since = since; fixed = fixed })) (numbers_from w n))) ≡ n
new_first m since fixed w zero h = refl
new_first m since fixed w (suc n) h =
    let b : Begun = record { base = []; since = since; fixed = fixed } in
    let is = slice_get-get_or m.vars w (record { name = []; values = []; begin = record { 0 = 0 } }) (omega arith) in
    let one : length (first_cells m b w) ≡ 1 = ap (λ (o : Option Var). length {A = Cell} (on_some o (λ (var : Var). record { held = record { kind = record { sv = record { 0 = w }; value = var.begin }; start = 0; stop = count (stub b) + w }; joined = true } ∷ []))) is in
    omega (arith, length-append (first_cells m b w) (flat_map (λ (r : Row). r.added) (map (first_row m b) (numbers_from (w + 1) n))), new_first m since fixed (w + 1) n (omega arith), one)

new_later : (m : Mission) (e : Extension) (es : List Extension) (since : ℤ) (fixed : List Time) (vs : List ℕ) → length (flat_map (λ (r : Row). r.added) (map (first_row m (record { base = e ∷ es; since = since; fixed = fixed })) vs)) ≡ 0
new_later m e es since fixed [] = refl
new_later m e es since fixed (v ∷ vs) = new_later m e es since fixed vs

-- the points: those of the plan, the next horizon's, and the ends of first tokens
pub points_begun : (m : Mission) (b : Begun) → (begin m b).points ≡ count b.base + 1 + new_tokens (begin m b)
points_begun m b = by b.base b.since b.fixed
  where
    by : (base : List Extension) (since : ℤ) (fixed : List Time) → (begin m (record { base = base; since = since; fixed = fixed })).points ≡ count base + 1 + new_tokens (begin m (record { base = base; since = since; fixed = fixed }))
    by [] since fixed = omega (arith, new_first m since fixed 0 (length m.vars) (omega arith))
    by (e ∷ es) since fixed = omega (arith, stub_count (record { base = e ∷ es; since = since; fixed = fixed }), new_later m e es since fixed (numbers_from 0 (length m.vars)))

none_for : (gs : List Goal) (n : ℕ) → n ≡ length gs → replicate {A = Option Held} n None ≡ map (λ (g : Goal). None) gs
none_for [] zero e = refl
none_for [] (suc n) e = absurd (omega arith)
none_for (g ∷ gs) zero e = absurd (omega arith)
none_for (g ∷ gs) (suc n) e = ap (λ (l : List (Option Held)). None ∷ l) (none_for gs n (omega arith))

module _ (m : Mission) (b : Begun) (may : MayBegin m b) (lines : List Shown) (outset : AreOutset m b lines) where
  pub added_begun : length (flat_map (λ (s : Shown). drop s.given s.tokens) lines) ≡ new_tokens (begin m b)
  added_begun = new_counted lines ∙ ap (λ (rs : List Row). length (flat_map (λ (r : Row). r.added) rs)) outset.rows

  pub total_begun : length (flat_map (λ (s : Shown). s.tokens) lines) ≡ tokens (begin m b)
  total_begun = all_counted lines outset.tracked.line ∙ ap (λ (rs : List Row). length (flat_map cells rs)) outset.rows

  pub added_few : length (flat_map (λ (s : Shown). drop s.given s.tokens) lines) ≤ 128
  added_few = omega (arith, added_begun, few_new_root m b may)

  pub total_few : length (flat_map (λ (s : Shown). s.tokens) lines) ≤ 2048000
  total_few = omega (arith, total_begun, all_few m b (begin m b) may (good_root m b may))

  pub shows_begun : (board : Board) (n : ℕ) → board.lines.items ≡ lines → board.supports.items ≡ [] → n ≡ length (goals_of m (number b)) → board.goals.items ≡ replicate n None → board.deferred.items ≡ [] → board.points ≡ count b.base + 1 + new_tokens (begin m b) → pictured board ≡ begin m b
  shows_begun board n is supports size goals deferred points =
      partial-same (pictured board) (begin m b) (ap (map row_of) is ∙ outset.rows) supports (goals ∙ none_for (goals_of m (number b)) n size) deferred (points ∙ sym (points_begun m b))
