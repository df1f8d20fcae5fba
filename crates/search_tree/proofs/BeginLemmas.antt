-- Where a search begins is sound.
use Rattle.std.proofs.Common.{List, None, Option, Some, [], ap, append-nil, arith, false, get_or, length, length-append, map, refl, slice_get, subst, suc, sym, true, zero, ℕ, ℤ, ◌++◌, ◌+◌, ◌<◌, ◌∙◌, ◌∷◌, ◌≡◌, ◌≤◌}
use Rattle.std.proofs.lemmas.Option.{slice_get-get_or, slice_get_within}
use Rattle.std.specs.List.{AllByRecursion}
use Rattle.hs_base.specs.Bounds.{bounds_of, goals_of, on_some}
use Rattle.hs_base.specs.Points.{count, ending, place_of, points_of, timeline_of, tokens_of}
use Rattle.hs_base.specs.Schedule.{IsBelow, numbers_from}
use Rattle.hs_base.specs.declared.mission.Kind.{Kind}
use Rattle.hs_base.specs.declared.mission.Mission.{Mission}
use Rattle.hs_base.specs.declared.mission.Var.{Var}
use Rattle.hs_base.specs.declared.plan.Extension.{Extension}
use Rattle.hs_base.specs.declared.plan.Time.{Time}
use Rattle.base_laws.proofs.PointLemmas.{named}
use Rattle.search_tree.proofs.CellLemmas.{given_cell, held_from_at, held_from_start, length-held, length-map', slice_get-map_some, start_at_below, stub_count}
use Rattle.search_tree.proofs.NameLemmas.{ending_same, named_at}
use Rattle.search_tree.specs.Begun.{Begun, number, stub}
use Rattle.search_tree.specs.Partial.{Partial, Row, begin, cells, first_cells, first_row, held_from}
use Rattle.search_tree.specs.Sound.{AreRows, IsAt, IsGoalIn, IsRow, IsSound}
use Rattle.search_tree.specs.declared.held.Cell.{Cell}
use Rattle.search_tree.specs.declared.held.Held.{Held}

zero_and : (i : ℕ) → 0 + i ≡ i
zero_and i = omega arith

pub number_is : (from n i x : ℕ) → slice_get (numbers_from from n) i ≡ Some x → (x ≡ from + i) × (i < n)
number_is from zero i x is = absurd (cc)
number_is from (suc n) zero x is = let same : from ≡ x = cc in (omega arith, omega arith)
number_is from (suc n) (suc i) x is = let r = number_is (from + 1) n i x is in (omega (arith, r.0), omega (arith, r.1))

length-numbers : (from n : ℕ) → length (numbers_from from n) ≡ n
length-numbers from zero = refl
length-numbers from (suc n) = ap suc (length-numbers (from + 1) n)

rows_from : (b : Begun) (f : ℕ → Row) (w n : ℕ) → ((v : ℕ) → w ≤ v → v < w + n → IsRow b v (f v)) → AreRows b w (map f (numbers_from w n))
rows_from b f w zero h = tt
rows_from b f w (suc n) h =
    let same : w + 1 ≡ suc w = omega arith in
    (h w (omega arith) (omega arith), subst (λ k. AreRows b k (map f (numbers_from (w + 1) n))) same (rows_from b f (w + 1) n (λ v low high. h v (omega arith) (omega arith))))

-- the first extension
first_is_row : (m : Mission) (since : ℤ) (fixed : List Time) (v : ℕ) → v < length m.vars → IsRow (record { base = []; since = since; fixed = fixed }) v (first_row m (record { base = []; since = since; fixed = fixed }) v)
first_is_row m since fixed v below =
    let b : Begun = record { base = []; since = since; fixed = fixed } in
    let var = get_or m.vars v (record { name = []; values = []; begin = record { 0 = 0 } }) in
    let is : slice_get m.vars v ≡ Some var = slice_get-get_or m.vars v _ below in
    let cell : Cell = record { held = record { kind = record { sv = record { 0 = v }; value = var.begin }; start = 0; stop = count (stub b) + v }; joined = true } in
    let one : first_cells m b v ≡ cell ∷ [] = ap (λ (o : Option Var). on_some o (λ var. record { held = record { kind = record { sv = record { 0 = v }; value = var.begin }; start = 0; stop = count (stub b) + v }; joined = true } ∷ [])) is in
    record {
      given = refl;
      variable = subst (AllByRecursion (λ (c : Cell). c.held.kind.sv.0 ≡ v)) (sym one) (refl, tt);
      some = subst (λ (l : List Cell). 0 < length l) (sym one) (omega arith);
      first = λ c here. let e : Some cell ≡ Some c = sym (ap (λ (l : List Cell). slice_get l 0) one) ∙ here in let f : cell ≡ c = cc in (ap (λ (y : Cell). y.joined) (sym f), ap (λ (y : Cell). y.held.start) (sym f));
    }

-- a later one
given_is_row : (b : Begun) (v : ℕ) → 0 < length (timeline_of (tokens_of b.base) v) → IsRow b v (record { given = held_from b v 0 (timeline_of (tokens_of b.base) v); added = []; finished = false })
given_is_row b v some = record {
  given = refl;
  variable = tt;
  some = let e = length-held b v 0 (timeline_of (tokens_of b.base) v) in let f = length-map' given_cell (held_from b v 0 (timeline_of (tokens_of b.base) v)) in let g = length-append (map given_cell (held_from b v 0 (timeline_of (tokens_of b.base) v))) [] in omega arith;
  first = λ c here. first_of' b v (timeline_of (tokens_of b.base) v) c here;
}
  where
    first_of' : (b : Begun) (v : ℕ) (ks : List Kind) (c : Cell) → slice_get (map given_cell (held_from b v 0 ks) ++ []) 0 ≡ Some c → (c.joined ≡ true) × (c.held.start ≡ 0)
    first_of' b v [] c here = absurd (cc)
    first_of' b v (k ∷ ks) c here =
        let one : Cell = given_cell (record { kind = k; start = 0; stop = place_of (ending v 0) (points_of b.base) }) in
        let f : one ≡ c = let e : Some one ≡ Some c = here in cc in
        (ap (λ (y : Cell). y.joined) (sym f), ap (λ (y : Cell). y.held.start) (sym f))

none_met : {X : Type 0} (p : Partial) (gs : List X) → AllByRecursion (IsGoalIn p) (map (λ g. None) gs)
none_met p [] = tt
none_met p (g ∷ gs) = (tt, none_met p gs)

-- the first extension
first_at : (m : Mission) (since : ℤ) (fixed : List Time) (v : ℕ) (x : Held) → IsAt (begin m (record { base = []; since = since; fixed = fixed })) v x → (var : Var) × (slice_get m.vars v ≡ Some var) × (x ≡ record { kind = record { sv = record { 0 = v }; value = var.begin }; start = 0; stop = 2 + v })
first_at m since fixed v x i =
    let b : Begun = record { base = []; since = since; fixed = fixed } in
    let r = slice_get-map_some (first_row m b) (numbers_from 0 (length m.vars)) v i.row i.is_row in
    let n = number_is 0 (length m.vars) v r.0 r.1 in
    let same : r.0 ≡ v = omega (arith, n.0) in
    let var = get_or m.vars v (record { name = []; values = []; begin = record { 0 = 0 } }) in
    let is : slice_get m.vars v ≡ Some var = slice_get-get_or m.vars v _ n.1 in
    let held : Held = record { kind = record { sv = record { 0 = v }; value = var.begin }; start = 0; stop = 2 + v } in
    let one : first_cells m b v ≡ record { held = held; joined = true } ∷ [] = ap (λ (o : Option Var). on_some o (λ var. record { held = record { kind = record { sv = record { 0 = v }; value = var.begin }; start = 0; stop = 2 + v }; joined = true } ∷ [])) is in
    let row : cells i.row ≡ record { held = held; joined = true } ∷ [] = ap cells (sym r.2) ∙ ap (λ n. cells (first_row m b n)) same ∙ one in
    (var, is, sym i.held ∙ only i.place i.cell held (ap (λ (l : List Cell). slice_get l i.place) (sym row) ∙ i.here))
  where
    only : (j : ℕ) (c : Cell) (h : Held) → slice_get (record { held = h; joined = true } ∷ []) j ≡ Some c → c.held ≡ h
    only zero c h e = let f : record { held = h; joined = true } ≡ c = let g : Some (record { held = h; joined = true }) ≡ Some c = e in cc in ap (λ (y : Cell). y.held) (sym f)
    only (suc j) c h e = absurd (cc)

pub sound_first : (m : Mission) (since : ℤ) (fixed : List Time) → AllByRecursion (λ (f : Time). f.point.0 < 1) fixed → IsSound m (record { base = []; since = since; fixed = fixed }) (begin m (record { base = []; since = since; fixed = fixed }))
sound_first m since fixed low = record {
  one_each = length-map' (first_row m b) (numbers_from 0 (length m.vars)) ∙ length-numbers 0 (length m.vars);
  rows = rows_from b (first_row m b) 0 (length m.vars) (λ v from below. first_is_row m since fixed v (omega arith));
  below = tt;
  fixed = low;
  distinct = λ v w x y i j e.
      let r = first_at m since fixed v x i in
      let s = first_at m since fixed w y j in
      let f = ap (λ (z : Held). z.stop) r.2 in
      let g = ap (λ (z : Held). z.stop) s.2 in
      let same : v ≡ w = omega (arith, e) in
      let vars : Some r.0 ≡ Some s.0 = sym r.1 ∙ ap (slice_get m.vars) same ∙ s.1 in
      let var : r.0 ≡ s.0 = cc in
      r.2 ∙ ap (λ n. record { kind = record { sv = record { 0 = n }; value = (r.0).begin }; start = 0; stop = 2 + n }) same ∙ ap (λ (q : Var). record { kind = record { sv = record { 0 = w }; value = q.begin }; start = 0; stop = 2 + w }) var ∙ sym s.2;
  fresh = λ v x i.
      let r = first_at m since fixed v x i in
      let f = ap (λ (z : Held). z.stop) r.2 in
      let g = ap (λ (z : Held). z.start) r.2 in
      let within = slice_get_within m.vars v r.0 r.1 in
      (omega arith, omega arith);
  above = omega arith;
  backed = tt;
  goals = none_met (begin m b) (goals_of m (number b));
}
  where
    b : Begun
    b = record { base = []; since = since; fixed = fixed }

-- a later extension: the tokens are the base plan's
later_at : (m : Mission) (e : Extension) (es : List Extension) (since : ℤ) (fixed : List Time) (v : ℕ) (x : Held) → IsAt (begin m (record { base = e ∷ es; since = since; fixed = fixed })) v x → (i : ℕ) × (i < length (timeline_of (tokens_of (e ∷ es)) v)) × (x.stop ≡ place_of (ending v i) (points_of (e ∷ es))) × (slice_get (held_from (record { base = e ∷ es; since = since; fixed = fixed }) v 0 (timeline_of (tokens_of (e ∷ es)) v)) i ≡ Some x)
later_at m e es since fixed v x i =
    let b : Begun = record { base = e ∷ es; since = since; fixed = fixed } in
    let ks = timeline_of (tokens_of (e ∷ es)) v in
    let r = slice_get-map_some (first_row m b) (numbers_from 0 (length m.vars)) v i.row i.is_row in
    let n = number_is 0 (length m.vars) v r.0 r.1 in
    let same : r.0 ≡ v = omega (arith, n.0) in
    let row : cells i.row ≡ map given_cell (held_from b v 0 ks) ++ [] = ap cells (sym r.2) ∙ ap (λ n. cells (first_row m b n)) same in
    let here : slice_get (map given_cell (held_from b v 0 ks)) i.place ≡ Some i.cell = ap (λ l. slice_get l i.place) (sym (append-nil (map given_cell (held_from b v 0 ks))) ∙ sym row) ∙ i.here in
    let h = slice_get-map_some given_cell (held_from b v 0 ks) i.place i.cell here in
    let is : h.0 ≡ x = ap (λ (y : Cell). y.held) h.2 ∙ i.held in
    let at : slice_get (held_from b v 0 ks) i.place ≡ Some x = h.1 ∙ ap Some is in
    let many = length-held b v 0 ks in
    (i.place, omega (arith, slice_get_within (held_from b v 0 ks) i.place x at), held_from_at b v 0 i.place ks x at ∙ ap (λ n. place_of (ending v n) (points_of (e ∷ es))) (zero_and i.place), at)

pub sound_later : (m : Mission) (e : Extension) (es : List Extension) (since : ℤ) (fixed : List Time)
    → ((v : ℕ) → v < length m.vars → 0 < length (timeline_of (tokens_of (e ∷ es)) v))
    → AllByRecursion (IsBelow (suc (count (e ∷ es)))) (bounds_of m (e ∷ es)) → AllByRecursion (λ (f : Time). f.point.0 < count (e ∷ es)) fixed
    → IsSound m (record { base = e ∷ es; since = since; fixed = fixed }) (begin m (record { base = e ∷ es; since = since; fixed = fixed }))
sound_later m e es since fixed some below low = record {
  one_each = length-map' (first_row m b) (numbers_from 0 (length m.vars)) ∙ length-numbers 0 (length m.vars);
  rows = rows_from b (first_row m b) 0 (length m.vars) (λ v from within. given_is_row b v (some v (omega arith)));
  below = below;
  fixed = low;
  distinct = λ v w x y i j stops.
      let r = later_at m e es since fixed v x i in
      let s = later_at m e es since fixed w y j in
      let names : Some (ending v r.0) ≡ Some (ending w s.0) = sym (named_at (e ∷ es) v r.0 r.1) ∙ ap (slice_get (points_of (e ∷ es))) (sym r.2 ∙ stops ∙ s.2) ∙ named_at (e ∷ es) w s.0 s.1 in
      let parts = ending_same v r.0 w s.0 names in
      let held : Some x ≡ Some y = sym r.3 ∙ ap (λ n. slice_get (held_from b n 0 (timeline_of (tokens_of (e ∷ es)) n)) r.0) parts.0 ∙ ap (slice_get (held_from b w 0 (timeline_of (tokens_of (e ∷ es)) w))) parts.1 ∙ s.3 in
      cc;
  fresh = λ v x i.
      let r = later_at m e es since fixed v x i in
      let point = (named (e ∷ es)).ends_there v r.0 r.1 in
      let more = stub_count b in
      let from = held_from_start b v 0 r.0 (timeline_of (tokens_of (e ∷ es)) v) x r.3 in
      let start = start_at_below (e ∷ es) v (0 + r.0) (omega (arith, r.1)) in
      (omega (arith, from, start), omega (arith, r.2));
  above = let more = stub_count b in omega arith;
  backed = tt;
  goals = none_met (begin m b) (goals_of m (number b));
}
  where
    b : Begun
    b = record { base = e ∷ es; since = since; fixed = fixed }
