-- How many tokens a partial plan has.
use Rattle.std.proofs.Common.{◌≡◌, ℕ, zero, suc, ◌+◌, ◌-◌, ◌<◌, ◌≤◌, true, false, List, [], ◌∷◌, ◌++◌, filter, flat_map, length, length-append, nat_eq, nat_le, nat_lt, slice_get, Some, refl, sym, ap, ◌∙◌, arith, inl, inr}
use Rattle.std.proofs.lemmas.Bool.{and_parts, cases_Bool, cases_lt, eq-eqb, eqb-true, le-ltb, lt-ltb}
use Rattle.std.proofs.lemmas.Bool.Decides.{nat_tests}
use Rattle.std.specs.List.{AllByRecursion}
use Rattle.hs_base.specs.Points.{timeline_of, tokens_of}
use Rattle.hs_base.specs.declared.limits.TheConstants.{FREE_POINTS}
use Rattle.hs_base.specs.declared.mission.Kind.{Kind}
use Rattle.hs_base.specs.declared.mission.Mission.{Mission}
use Rattle.search_laws.specs.Good.{AreAllowed}
use Rattle.search_laws.specs.Lawful.{IsWithin}
use Rattle.search_tree.proofs.CellLemmas.{held_kinds, length-cells, length-map'}
use Rattle.search_tree.proofs.NodeLemmas.{kinds}
use Rattle.search_tree.proofs.SizeLemmas.{new_changed, new_inserted}
use Rattle.search_tree.proofs.SoundLemmas.{length-at_place}
use Rattle.search_tree.specs.Begun.{Begun}
use Rattle.search_tree.specs.May.{HasRoom, MayDo}
use Rattle.search_tree.specs.Partial.{Partial, Row, cells}
use Rattle.search_tree.specs.Parts.{at_place, close, do_part, do_parts, end_row, gap_cell, joined_cell, put}
use Rattle.search_tree.specs.Resolvers.{free_with, has_room, tokens}
use Rattle.search_tree.specs.Sound.{AreRows}
use Rattle.search_tree.specs.declared.held.Cell.{Cell}
use Rattle.search_tree.specs.declared.held.Held.{Held}
use Rattle.search_tree.specs.declared.part.Part.{Part}
use Rattle.search_tree.specs.declared.part.Part.TheVariants.{Deferred, Finished, Followed, Inserted, Joined, MetGoal, Supported}

-- the tokens of the plan that is extended, by row
abbrev pub given_of : List Row → ℕ
given_of rows = length (flat_map (λ (r : Row). r.given) rows)

abbrev pub new_of : List Row → ℕ
new_of rows = length (flat_map (λ (r : Row). r.added) rows)

pub cells_count : (rows : List Row) → length (flat_map cells rows) ≡ given_of rows + new_of rows
cells_count [] = omega arith
cells_count (r ∷ rows) =
    let a = length-append (cells r) (flat_map cells rows) in
    let c = length-cells r in
    let e = length-append r.given (flat_map (λ (r : Row). r.given) rows) in
    let f = length-append r.added (flat_map (λ (r : Row). r.added) rows) in
    let g = cells_count rows in
    omega arith

pub length_kinds : (rows : List Row) → length (flat_map kinds rows) ≡ new_of rows
length_kinds [] = refl
length_kinds (r ∷ rows) =
    let a = length-append (kinds r) (flat_map kinds rows) in
    let c = length-append r.added (flat_map (λ (r : Row). r.added) rows) in
    let d = length-map' (λ (c : Cell). c.held.kind) r.added in
    let e = length_kinds rows in
    omega arith

-- counted by variables
pub below_more : (n : ℕ) (ks : List Kind) → length (filter (λ k. nat_lt k.sv.0 (suc n)) ks) ≡ length (filter (λ k. nat_lt k.sv.0 n) ks) + length (timeline_of ks n)
below_more n [] = omega arith
below_more n (k ∷ ks) = elim (cases_lt k.sv.0 n) [
  | inl less ↦
      let a = lt-ltb k.sv.0 (suc n) (omega arith) in
      let c = lt-ltb k.sv.0 n less in
      let d = differs k.sv.0 n (λ e. absurd (omega arith)) in
      let e = below_more n ks in
      rw (a, c, d) (omega arith)
  | inr more ↦ elim (cases_lt k.sv.0 (suc n)) [
    | inl here ↦
        let same : k.sv.0 ≡ n = omega arith in
        let a = lt-ltb k.sv.0 (suc n) here in
        let c = le-ltb k.sv.0 n more in
        let d = eq-eqb k.sv.0 n same in
        let e = below_more n ks in
        rw (a, c, d) (omega arith)
    | inr far ↦
        let a = le-ltb k.sv.0 (suc n) far in
        let c = le-ltb k.sv.0 n more in
        let d = differs k.sv.0 n (λ e. absurd (omega arith)) in
        let e = below_more n ks in
        rw (a, c, d) (omega arith)
  ]
]
  where
    differs : (x n : ℕ) → (x ≡ n → ⊥) → nat_eq x n ≡ false
    differs x n h = elim (cases_Bool (nat_eq x n)) [ inl t ↦ absurd (h (eqb-true x n t)) | inr t ↦ t ]

pub none_below : (ks : List Kind) → length (filter (λ k. nat_lt k.sv.0 0) ks) ≡ 0
none_below [] = refl
none_below (k ∷ ks) = rw (le-ltb k.sv.0 0 (omega arith)) (none_below ks)

all_below : (n : ℕ) (ks : List Kind) → AllByRecursion (λ (k : Kind). k.sv.0 < n) ks → length (filter (λ k. nat_lt k.sv.0 n) ks) ≡ length ks
all_below n [] h = refl
all_below n (k ∷ ks) h = rw (lt-ltb k.sv.0 n h.0) (ap suc (all_below n ks h.1))

given_below : (b : Begun) (w : ℕ) (rows : List Row) → AreRows b w rows → given_of rows + length (filter (λ k. nat_lt k.sv.0 w) (tokens_of b.base)) ≡ length (filter (λ k. nat_lt k.sv.0 (w + length rows)) (tokens_of b.base))
given_below b w [] h = let e : w + 0 ≡ w = omega arith in rw e (omega arith)
given_below b w (r ∷ rows) h =
    let rest = given_below b (suc w) rows h.1 in
    let there : w + suc (length rows) ≡ suc w + length rows = omega arith in
    let a = length-append r.given (flat_map (λ (r : Row). r.given) rows) in
    let c = ap length h.0.given ∙ sym (length-map' (λ (x : Held). x.kind) _) ∙ ap length (held_kinds b w 0 (timeline_of (tokens_of b.base) w)) in
    let d = below_more w (tokens_of b.base) in
    rw there (omega arith)

-- the rows have all tokens of the plan that is extended
pub given_all : (b : Begun) (rows : List Row) → AreRows b 0 rows → AllByRecursion (λ (k : Kind). k.sv.0 < length rows) (tokens_of b.base) → given_of rows ≡ length (tokens_of b.base)
given_all b rows h inside =
    let e : 0 + length rows ≡ length rows = omega arith in
    omega (arith, given_below b 0 rows h, none_below (tokens_of b.base), all_below (length rows) (tokens_of b.base) inside, ap (λ n. length (filter (λ (k : Kind). nat_lt k.sv.0 n) (tokens_of b.base))) e)

-- a change of one row keeps them
pub given_changed : (g : Row → Row) (v : ℕ) (rows : List Row) → ((r : Row) → (g r).given ≡ r.given) → given_of (at_place g v rows) ≡ given_of rows
given_changed g v [] h = refl
given_changed g zero (r ∷ rows) h = ap (λ l. length (l ++ flat_map (λ (r : Row). r.given) rows)) (h r)
given_changed g (suc v) (r ∷ rows) h = omega (arith, length-append r.given (flat_map (λ (r : Row). r.given) (at_place g v rows)), length-append r.given (flat_map (λ (r : Row). r.given) rows), given_changed g v rows h)

module _ (m : Mission) (b : Begun) (p : Partial) where
  pub tokens_put : (v i : ℕ) (c : Cell) (r : Row) → slice_get p.rows v ≡ Some r → length (flat_map cells (at_place (put i c) v p.rows)) ≡ suc (tokens p)
  tokens_put v i c r is = omega (arith, cells_count (at_place (put i c) v p.rows), cells_count p.rows, given_changed (put i c) v p.rows (λ r. refl), new_inserted m b p v i c r is)

  tokens_kept : (v : ℕ) (g : Row → Row) (r : Row) → slice_get p.rows v ≡ Some r → ((q : Row) → (g q).given ≡ q.given) → ((q : Row) → length (g q).added ≡ length q.added) → length (flat_map cells (at_place g v p.rows)) ≡ tokens p
  tokens_kept v g r is given added = omega (arith, cells_count (at_place g v p.rows), cells_count p.rows, given_changed g v p.rows given, new_changed g 0 v p.rows r is (λ q. omega (arith, added q)))

  -- where a token has room, the plan with it is within the limit
  free_room : has_room b p ≡ true → free_with b p 1 ≤ FREE_POINTS
  free_room room = le_from (free_with b p 1) FREE_POINTS (and_parts _ _ room).1
    where
      le_from : (a c : ℕ) → nat_le a c ≡ true → a ≤ c
      le_from a c h = grind (arith, nat_tests)

  -- parts keep within the limit
  pub within_part : (x : Part) → MayDo m b p x → HasRoom b p x → IsWithin b p → IsWithin b (do_part p x)
  within_part (Inserted v i value) may room h = omega (arith, free_room room, tokens_put v.0 i (gap_cell p v.0 value.0) may.row may.is_row)
  within_part (Followed v i value) may room h = omega (arith, free_room room, tokens_put v.0 i (joined_cell p v.0 i value.0) may.insert.row may.insert.is_row)
  within_part (Joined v i) may room h = omega (arith, h, tokens_kept v.0 (close i) may.row may.is_row (λ q. refl) (λ q. length-at_place (λ (c : Cell). record { held = c.held; joined = true }) (suc i - length q.given) q.added))
  within_part (Finished v) may room h = omega (arith, h, tokens_kept v.0 end_row may.row may.is_row (λ q. refl) (λ q. refl))
  within_part (Supported t i by) may room h = h
  within_part (MetGoal k by) may room h = h
  within_part (Deferred t i) may room h = h

pub within_all : (m : Mission) (b : Begun) (p : Partial) (xs : List Part) → AreAllowed m b p xs → IsWithin b p → IsWithin b (do_parts p xs)
within_all m b p [] h w = w
within_all m b p (x ∷ xs) h w = within_all m b (do_part p x) xs h.1 (within_part m b p x h.0.0 h.0.1 w)
