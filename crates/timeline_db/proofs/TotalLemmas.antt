-- How many tokens the rows of a partial plan have.
use Rattle.std.proofs.Common.{◌≡◌, ℕ, zero, suc, ◌+◌, ◌*◌, ◌≤◌, List, [], ◌∷◌, Some, length, flat_map, slice_get, nat_eq, refl, ap, length-append, arith}
use Rattle.std.proofs.lemmas.List.Sums.{count_by-le-length, length-filter}
use Rattle.std.proofs.lemmas.Option.{slice_get_within}
use Rattle.hs_base.specs.Points.{timeline_of, tokens_of}
use Rattle.hs_base.specs.declared.mission.Kind.{Kind}
use Rattle.hs_base.specs.declared.mission.Mission.{Mission}
use Rattle.search_tree.proofs.CellLemmas.{length-cells, length-held, row_at}
use Rattle.search_tree.proofs.SizeLemmas.{tokens_few}
use Rattle.search_tree.specs.Begun.{Begun}
use Rattle.search_tree.specs.Outset.{MayBegin}
use Rattle.search_tree.specs.Partial.{Partial, Row, cells}
use Rattle.search_tree.specs.Resolvers.{tokens}
use Rattle.search_laws.specs.Good.{IsGood}

-- a timeline has no more tokens than there are
pub timeline_few : (ts : List Kind) (v : ℕ) → length (timeline_of ts v) ≤ length ts
timeline_few ts v = omega (arith, length-filter (λ (k : Kind). nat_eq k.sv.0 v) ts, count_by-le-length (λ (k : Kind). nat_eq k.sv.0 v) ts)

-- a row has no more new tokens than all rows
row_new : (rows : List Row) (v : ℕ) (r : Row) → slice_get rows v ≡ Some r → length r.added ≤ length (flat_map (λ (q : Row). q.added) rows)
row_new [] v r is = absurd (cc)
row_new (q ∷ rows) zero r is = omega (arith, ap length (ap (λ (x : Row). x.added) (first is)), length-append q.added (flat_map (λ (q : Row). q.added) rows))
  where
    first : slice_get (q ∷ rows) zero ≡ Some r → q ≡ r
    first e = cc
row_new (q ∷ rows) (suc v) r is = omega (arith, row_new rows v r is, length-append q.added (flat_map (λ (q : Row). q.added) rows))

-- so many tokens in each row
all_most : (rows : List Row) → ((v : ℕ) (r : Row) → slice_get rows v ≡ Some r → length (cells r) ≤ 128000) → length (flat_map cells rows) ≤ 128000 * length rows
all_most [] h = omega arith
all_most (q ∷ rows) h = omega (arith, h 0 q refl, all_most rows (λ v r is. h (suc v) r is), length-append (cells q) (flat_map cells rows))

module _ (m : Mission) (b : Begun) (p : Partial) (may : MayBegin m b) (good : IsGood m b p) where
  -- a row has no more than 128,000 tokens
  pub row_few : (v : ℕ) (r : Row) → slice_get p.rows v ≡ Some r → length (cells r) ≤ 128000
  row_few v r is =
      let given = (row_at b 0 v p.rows r good.sound.rows is).given in
      let ks = timeline_of (tokens_of b.base) (0 + v) in
      let new = good.few in
      let mission = may.checked.mission.few_horizons in
      let left = slice_get_within m.horizons (length b.base) may.horizon may.is_horizon in
      omega (arith, length-cells r, ap length given, length-held b (0 + v) 0 ks, timeline_few (tokens_of b.base) (0 + v), tokens_few m b.base may.checked.rules, row_new p.rows v r is)

  -- and all of them no more than 2,048,000
  pub all_few : tokens p ≤ 2048000
  all_few =
      let vars = may.checked.mission.few_vars in
      let one_each = good.sound.one_each in
      omega (arith, all_most p.rows row_few)
