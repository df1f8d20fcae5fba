-- How many points a partial plan has.
use Rattle.std.proofs.Common.{List, Option, Some, [], ap, arith, flat_map, length, length-append, map, nat_le, refl, rules, slice_get, suc, true, zero, ℕ, ℤ, ◌*◌, ◌++◌, ◌+◌, ◌-◌, ◌∷◌, ◌≡◌, ◌≤◌}
use Rattle.std.proofs.lemmas.Bool.{and_parts}
use Rattle.std.proofs.lemmas.Bool.Decides.{nat_tests}
use Rattle.std.proofs.lemmas.Option.{slice_get-get_or, slice_get_within}
use Rattle.std.specs.Prelude.{insert}
use Rattle.hs_base.specs.Bounds.{on_some}
use Rattle.hs_base.specs.Checked.{KeepsRules}
use Rattle.hs_base.proofs.RuleLemmas.{limits_kept}
use Rattle.hs_base.specs.Points.{count, tokens_of}
use Rattle.hs_base.specs.Schedule.{numbers_from}
use Rattle.hs_base.specs.Walks.{EachAfter}
use Rattle.hs_base.specs.declared.mission.Mission.{Mission}
use Rattle.hs_base.specs.declared.mission.Var.{Var}
use Rattle.hs_base.specs.declared.plan.Extension.{Extension}
use Rattle.hs_base.specs.declared.plan.Time.{Time}
use Rattle.base_laws.proofs.ListLemmas.{snoc_induction}
use Rattle.base_laws.proofs.PointLemmas.{count_is, tokens-push}
use Rattle.search_tree.proofs.CellLemmas.{stub_count}
use Rattle.search_tree.proofs.SoundLemmas.{length-at_place}
use Rattle.search_tree.specs.Begun.{Begun, stub}
use Rattle.search_tree.specs.May.{MayDo}
use Rattle.search_tree.specs.Outset.{MayBegin}
use Rattle.search_tree.specs.Partial.{Partial, Row, begin, first_cells, first_row}
use Rattle.search_tree.specs.Parts.{at_place, close, do_part, end_row, gap_cell, joined_cell, put}
use Rattle.search_tree.specs.Resolvers.{has_room, new_tokens}
use Rattle.search_tree.specs.Sound.{IsSmall}
use Rattle.search_tree.specs.declared.held.Cell.{Cell}
use Rattle.search_tree.specs.declared.part.Part.{Part}
use Rattle.search_tree.specs.declared.part.Part.TheVariants.{Deferred, Finished, Followed, Inserted, Joined, MetGoal, Supported}

-- the new tokens of rows
abbrev pub new_of : List Row → ℕ
new_of rows = length (flat_map (λ (r : Row). r.added) rows)

length-insert_any : {X : Type 0} (xs : List X) (k : ℕ) (x : X) → length (insert xs k x) ≡ suc (length xs)
length-insert_any [] zero x = refl
length-insert_any [] (suc k) x = refl
length-insert_any (y ∷ xs) zero x = refl
length-insert_any (y ∷ xs) (suc k) x = ap suc (length-insert_any xs k x)

-- a change of one row adds so many tokens
pub new_changed : (g : Row → Row) (more v : ℕ) (rows : List Row) (r : Row) → slice_get rows v ≡ Some r → ((q : Row) → length (g q).added ≡ more + length q.added) → new_of (at_place g v rows) ≡ more + new_of rows
new_changed g more v [] r is h = absurd (cc)
new_changed g more zero (q ∷ rows) r is h = omega (arith, h q, length-append (g q).added (flat_map (λ (r : Row). r.added) rows), length-append q.added (flat_map (λ (r : Row). r.added) rows))
new_changed g more (suc v) (q ∷ rows) r is h = omega (arith, new_changed g more v rows r is h, length-append q.added (flat_map (λ (r : Row). r.added) (at_place g v rows)), length-append q.added (flat_map (λ (r : Row). r.added) rows))

module _ (m : Mission) (b : Begun) (p : Partial) where
  pub new_inserted : (v i : ℕ) (c : Cell) (r : Row) → slice_get p.rows v ≡ Some r → new_of (at_place (put i c) v p.rows) ≡ suc (new_of p.rows)
  new_inserted v i c r is = omega (arith, new_changed (put i c) 1 v p.rows r is (λ q. omega (arith, length-insert_any q.added (suc i - length q.given) c)))

  pub small_part : (x : Part) → MayDo m b p x → IsSmall b p → IsSmall b (do_part p x)
  small_part (Inserted v i value) h s = record { points = let before = s.points in let e = new_inserted v.0 i (gap_cell p v.0 value.0) h.row h.is_row in omega arith }
  small_part (Followed v i value) h s = record { points = let before = s.points in let e = new_inserted v.0 i (joined_cell p v.0 i value.0) h.insert.row h.insert.is_row in omega arith }
  small_part (Joined v i) h s = record { points = let before = s.points in let e = new_changed (close i) 0 v.0 p.rows h.row h.is_row (λ q. omega (arith, length-at_place (λ (c : Cell). record { held = c.held; joined = true }) (suc i - length q.given) q.added)) in omega arith }
  small_part (Finished v) h s = record { points = let before = s.points in let e = new_changed end_row 0 v.0 p.rows h.row h.is_row (λ q. omega arith) in omega arith }
  small_part (Supported t i by) h s = record { points = s.points }
  small_part (MetGoal g by) h s = record { points = s.points }
  small_part (Deferred t i) h s = record { points = s.points }

-- the tokens of a plan that keeps its rules
pub tokens_few : (m : Mission) (es : List Extension) → EachAfter (KeepsRules m) [] es → length (tokens_of es) ≤ 128 * length es
tokens_few m es rules = snoc_induction (λ es. length (tokens_of es) ≤ 128 * length es) (KeepsRules m) step [] es (omega arith) rules
  where
    step : (before : List Extension) (e : Extension) → KeepsRules m before e → length (tokens_of before) ≤ 128 * length before → length (tokens_of (before ++ e ∷ [])) ≤ 128 * length (before ++ e ∷ [])
    step before e r h =
        let few = (limits_kept r).tokens in
        omega (arith, ap length (tokens-push before e), length-append (tokens_of before) e.tokens, length-append before (e ∷ []))

-- one more token has its points among the first 131,072
pub few_points : (m : Mission) (b : Begun) (p : Partial) → MayBegin m b → IsSmall b p → has_room b p ≡ true → p.points + 2 ≤ 131072
few_points m b p may small room =
    let points = small.points in
    let tokens = le_from (suc (new_tokens p)) 128 (and_parts _ _ room).0 in
    let mission = may.checked.mission.few_horizons in
    let left = slice_get_within m.horizons (length b.base) may.horizon may.is_horizon in
    omega (arith, count_is b.base, tokens_few m b.base may.checked.rules)
  where
    le_from : (a c : ℕ) → nat_le a c ≡ true → a ≤ c
    le_from a c h = grind (arith, nat_tests)

pub few_at_root : (m : Mission) (b : Begun) → MayBegin m b → (begin m b).points ≤ 131072
few_at_root m b may =
    let mission = may.checked.mission.few_horizons in
    let vars = may.checked.mission.few_vars in
    let left = slice_get_within m.horizons (length b.base) may.horizon may.is_horizon in
    let more : (begin m b).points ≤ count (stub b) + length m.vars = at_most b.base in
    omega (arith, stub_count b, count_is b.base, tokens_few m b.base may.checked.rules, more)
  where
    at_most : (es : List Extension) → count (stub b) + (elim es [ [] ↦ length m.vars | (e ∷ es) ↦ 0 ]) ≤ count (stub b) + length m.vars
    at_most [] = omega arith
    at_most (e ∷ es) = omega arith

-- where the search begins
one_each : (m : Mission) (since : ℤ) (fixed : List Time) (w n : ℕ) → w + n ≤ length m.vars → new_of (map (first_row m (record { base = []; since = since; fixed = fixed })) (numbers_from w n)) ≡ n
one_each m since fixed w zero h = refl
one_each m since fixed w (suc n) h =
    let b : Begun = record { base = []; since = since; fixed = fixed } in
    let is = slice_get-get_or m.vars w (record { name = []; values = []; begin = record { 0 = 0 } }) (omega arith) in
    let one : length (first_cells m b w) ≡ 1 = ap (λ (o : Option Var). length {A = Cell} (on_some o (λ (var : Var). record { held = record { kind = record { sv = record { 0 = w }; value = var.begin }; start = 0; stop = count (stub b) + w }; joined = true } ∷ []))) is in
    omega (arith, length-append (first_cells m b w) (flat_map (λ (r : Row). r.added) (map (first_row m b) (numbers_from (w + 1) n))), one_each m since fixed (w + 1) n (omega arith), one)

none_new : (m : Mission) (e : Extension) (es : List Extension) (since : ℤ) (fixed : List Time) (vs : List ℕ) → new_of (map (first_row m (record { base = e ∷ es; since = since; fixed = fixed })) vs) ≡ 0
none_new m e es since fixed [] = refl
none_new m e es since fixed (v ∷ vs) = none_new m e es since fixed vs

pub small_root : (m : Mission) (b : Begun) → IsSmall b (begin m b)
small_root m b = record { points = by b.base b.since b.fixed }
  where
    by : (base : List Extension) (since : ℤ) (fixed : List Time) → (begin m (record { base = base; since = since; fixed = fixed })).points ≤ suc (count base) + 2 * new_tokens (begin m (record { base = base; since = since; fixed = fixed }))
    by [] since fixed = omega (arith, one_each m since fixed 0 (length m.vars) (omega arith))
    by (e ∷ es) since fixed = omega (arith, stub_count (record { base = e ∷ es; since = since; fixed = fixed }), none_new m e es since fixed (numbers_from 0 (length m.vars)))

-- there is room for one more new token
pub room_for : (b : Begun) (p : Partial) → has_room b p ≡ true → suc (new_tokens p) ≤ 128
room_for b p room = le_from (suc (new_tokens p)) 128 (and_parts _ _ room).0
  where
    le_from : (a c : ℕ) → nat_le a c ≡ true → a ≤ c
    le_from a c h = grind (arith, nat_tests)

-- a partial plan has no more than 131,072 points
pub few_all : (m : Mission) (b : Begun) (p : Partial) → MayBegin m b → IsSmall b p → new_tokens p ≤ 128 → p.points ≤ 131072
few_all m b p may small few =
    let points = small.points in
    let mission = may.checked.mission.few_horizons in
    let left = slice_get_within m.horizons (length b.base) may.horizon may.is_horizon in
    omega (arith, count_is b.base, tokens_few m b.base may.checked.rules)

pub few_new_root : (m : Mission) (b : Begun) → MayBegin m b → new_tokens (begin m b) ≤ 128
few_new_root m b may = let vars = may.checked.mission.few_vars in by b.base b.since b.fixed (omega arith)
  where
    by : (base : List Extension) (since : ℤ) (fixed : List Time) → length m.vars ≤ 128 → new_tokens (begin m (record { base = base; since = since; fixed = fixed })) ≤ 128
    by [] since fixed h = omega (arith, one_each m since fixed 0 (length m.vars) (omega arith))
    by (e ∷ es) since fixed h = omega (arith, none_new m e es since fixed (numbers_from 0 (length m.vars)))
