-- The tokens and supports of the plan that is extended, in the rows of a partial plan.
use Rattle.std.proofs.Common.{◌≡◌, ℕ, ◌+◌, ◌<◌, false, List, [], length, map, slice_get, Some, nat_eq, refl, sym, ap, ◌∙◌, subst, arith}
use Rattle.std.proofs.lemmas.Option.{slice_get-get_or, slice_get-map, slice_get_within}
use Rattle.std.specs.List.{AllByRecursion}
use Rattle.std.specs.Prelude.{get_or, option_map}
use Rattle.hs_base.specs.Checked.{supports_of}
use Rattle.hs_base.specs.Points.{ending, place_of, points_of, stop, timeline_of, token_at, tokens_of}
use Rattle.hs_base.specs.declared.mission.Kind.{Kind}
use Rattle.hs_base.specs.declared.mission.Mission.{Mission}
use Rattle.hs_base.specs.declared.plan.Support.{Support}
use Rattle.hs_base.specs.declared.plan.TokenRef.{TokenRef}
use Rattle.base_laws.proofs.ListLemmas.{each_at, slice_get-append_left}
use Rattle.base_laws.proofs.MissionLemmas.{each_filter}
use Rattle.base_laws.proofs.PointLemmas.{of_variable}
use Rattle.plan_laws.proofs.NeedLemmas.{ServedAt, all_served, need_found}
use Rattle.plan_laws.proofs.InsideLemmas.{tokens_inside}
use Rattle.search_laws.proofs.ApartLemmas.{one_place}
use Rattle.search_laws.proofs.HasLemmas.{Has}
use Rattle.search_laws.specs.Good.{IsGood}
use Rattle.search_tree.proofs.CellLemmas.{given_cell, held_from_at, length-held, length-map', row_at}
use Rattle.search_tree.proofs.SoundLemmas.{cell_variable}
use Rattle.search_tree.specs.Begun.{Begun}
use Rattle.search_tree.specs.Outset.{MayBegin}
use Rattle.search_tree.specs.Partial.{Partial, Row, at, cells, held_from, nobody}
use Rattle.search_tree.specs.Sound.{IsAt, IsRow}
use Rattle.search_tree.specs.declared.held.Cell.{Cell}
use Rattle.search_tree.specs.declared.held.Held.{Held}

-- a token of the plan that is extended, in its row
pub record IsGiven (b : Begun) (p : Partial) (t : TokenRef) : Type 0 where
  pub row : Row
  pub is_row : slice_get p.rows t.sv.0 ≡ Some row
  pub held : Held
  pub here : slice_get (cells row) t.place ≡ Some (given_cell held)
  pub is : held.stop ≡ stop b.base t

module _ (m : Mission) (b : Begun) (p : Partial) (may : MayBegin m b) (good : IsGood m b p) where
  pub row_here : (v : ℕ) (r : Row) → slice_get p.rows v ≡ Some r → IsRow b v r
  row_here v r is = let e : 0 + v ≡ v = omega arith in subst (λ n. IsRow b n r) e (row_at b 0 v p.rows r good.sound.rows is)

  pub given_token : (t : TokenRef) (k : Kind) → token_at b.base t ≡ Some k → IsGiven b p t
  given_token t k is =
      let line = timeline_of (tokens_of b.base) t.sv.0 in
      let variable = of_variable (tokens_of b.base) t.sv.0 t.place k is in
      let inside = timeline_inside (tokens_of b.base) t.sv.0 t.place k (tokens_inside m b.base may.checked.rules) is in
      let r = get_or p.rows t.sv.0 (record { given = []; added = []; finished = false }) in
      let is_row : slice_get p.rows t.sv.0 ≡ Some r = slice_get-get_or p.rows t.sv.0 _ (let e = good.sound.one_each in omega arith) in
      let given : r.given ≡ held_from b t.sv.0 0 line = (row_here t.sv.0 r is_row).given in
      let below = slice_get_within line t.place k is in
      let many : length r.given ≡ length line = ap length given ∙ length-held b t.sv.0 0 line in
      let h = get_or r.given t.place nobody in
      let at_given : slice_get r.given t.place ≡ Some h = slice_get-get_or r.given t.place nobody (omega arith) in
      let mapped : slice_get (map given_cell r.given) t.place ≡ Some (given_cell h) = slice_get-map given_cell r.given t.place ∙ ap (option_map given_cell) at_given in
      let zero_plus : 0 + t.place ≡ t.place = omega arith in
      record {
        row = r;
        is_row = is_row;
        held = h;
        here = slice_get-append_left (map given_cell r.given) r.added t.place (omega (arith, length-map' given_cell r.given)) ∙ mapped;
        is = held_from_at b t.sv.0 0 t.place line h (ap (λ l. slice_get l t.place) (sym given) ∙ at_given) ∙ ap (λ n. place_of (ending t.sv.0 n) (points_of b.base)) zero_plus;
      }
    where
      timeline_inside : (ks : List Kind) (v i : ℕ) (k : Kind) → AllByRecursion (λ (k : Kind). k.sv.0 < length m.vars) ks → slice_get (timeline_of ks v) i ≡ Some k → v < length m.vars
      timeline_inside ks v i k all is = let e = of_variable ks v i k is in let f = each_at (λ (k : Kind). k.sv.0 < length m.vars) (timeline_of ks v) i k (each_filter (λ (k : Kind). k.sv.0 < length m.vars) (λ k. nat_eq k.sv.0 v) ks all) is in omega arith

  -- the tokens of its supports
  pub given_support : (o : Support) → Has (supports_of b.base) o → IsGiven b p o.token
  given_support o has =
      let all = all_served m may.checked.schedule b.base may.checked.rules may.checked.meets in
      let s : ServedAt m may.checked.schedule b.base o = each_at (ServedAt m may.checked.schedule b.base) (supports_of b.base) has.0 o all.each has.1 in
      let f = need_found m b.base o.token o.need s.need s.has_need in
      given_token o.token f.0 f.1

  -- is the token at a place, if they end at one point
  pub same_token : (t : TokenRef) (v i : ℕ) (r : Row) (c : Cell) → IsGiven b p t → slice_get p.rows v ≡ Some r → slice_get (cells r) i ≡ Some c → stop b.base t ≡ c.held.stop → t ≡ at v i
  same_token t v i r c x is here same =
      let mine : IsAt p t.sv.0 x.held = record { row = x.row; is_row = x.is_row; place = t.place; cell = given_cell x.held; here = x.here; held = refl } in
      let its : IsAt p v c.held = record { row = r; is_row = is; place = i; cell = c; here = here; held = refl } in
      let held : x.held ≡ c.held = good.sound.distinct t.sv.0 v x.held c.held mine its (x.is ∙ same) in
      let first : x.held.kind.sv.0 ≡ t.sv.0 = cell_variable m b p good.sound t.sv.0 t.place x.row (given_cell x.held) (row_here t.sv.0 x.row x.is_row) x.here in
      let second : c.held.kind.sv.0 ≡ v = cell_variable m b p good.sound v i r c (row_here v r is) here in
      let variable : t.sv.0 ≡ v = sym first ∙ ap (λ (y : Held). y.kind.sv.0) held ∙ second in
      let row : x.row ≡ r = let both : Some x.row ≡ Some r = sym x.is_row ∙ ap (slice_get p.rows) variable ∙ is in cc in
      let place : t.place ≡ i = one_place (cells r) t.place i (given_cell x.held) c (good.apart.each v r is) (ap (λ (q : Row). slice_get (cells q) t.place) (sym row) ∙ x.here) here (x.is ∙ same) in
      ap (λ w. at w t.place) variable ∙ ap (at v) place
