-- Where a search may begin there is a schedule.
use Rattle.std.proofs.Common.{List, None, Option, Some, [], ap, arith, cond, false, flat_map, get_or, inl, inr, length, map, nat_eq, nat_lt, neg_ℤ, negsuc, pos, refl, set, slice_get, subst, suc, sym, true, zero, ℕ, ℤ, ◌++◌, ◌+◌, ◌-◌, ◌<◌, ◌∙◌, ◌∷◌, ◌≡◌, ◌≤◌, ◌⊎◌}
use Rattle.std.proofs.lemmas.Bool.{cases_Bool, cases_lt, cond-false, cond-true, eq-eqb, eqb-true, le-ltb, lt-ltb}
use Rattle.std.proofs.lemmas.Int.{ints}
use Rattle.std.proofs.lemmas.Option.{slice_get-get_or}
use Rattle.std.specs.List.{AllByRecursion}
use Rattle.hs_base.specs.Bounds.{apart, bounds_of, exactly, fixed_bounds, goals_of, horizon_bounds, is_fixed, on_some, point_bounds, since_bounds, together}
use Rattle.hs_base.specs.Checked.{KeepsFixedAt, joined}
use Rattle.hs_base.specs.Missions.{IsVar}
use Rattle.hs_base.specs.Points.{count, hor, start, start_at, timeline_of, tokens_of, value_of}
use Rattle.hs_base.specs.Ranges.{InRange, range, whole}
use Rattle.hs_base.specs.Schedule.{Holds, IsBelow, Meets, Schedule, bound, numbers_from}
use Rattle.hs_base.specs.Walks.{EachAfter}
use Rattle.hs_base.specs.declared.limits.TheConstants.{LAST_HORIZON}
use Rattle.hs_base.specs.declared.mission.Goal.{Goal}
use Rattle.hs_base.specs.declared.mission.Horizon.{Horizon}
use Rattle.hs_base.specs.declared.mission.Kind.{Kind}
use Rattle.hs_base.specs.declared.mission.Mission.{Mission}
use Rattle.hs_base.specs.declared.mission.Value.{Value}
use Rattle.hs_base.specs.declared.mission.Var.{Var}
use Rattle.hs_base.specs.declared.net.Bound.{Bound}
use Rattle.hs_base.specs.declared.plan.Extension.{Extension}
use Rattle.hs_base.specs.declared.plan.Time.{Time}
use Rattle.base_laws.proofs.ListLemmas.{each_at, each_both, each_split, each_weaker}
use Rattle.base_laws.proofs.MissionLemmas.{horizon_is, value_is}
use Rattle.base_laws.proofs.PointLemmas.{count_is, horizon_number}
use Rattle.plan_laws.proofs.ChainLemmas.{has_tokens}
use Rattle.plan_laws.proofs.FitLemmas.{bounds_fit}
use Rattle.plan_laws.proofs.LegalLemmas.{ts}
use Rattle.plan_laws.specs.Fit.{IsFit}
use Rattle.search_tree.proofs.BeginLemmas.{sound_first, sound_later}
use Rattle.search_tree.proofs.CellLemmas.{given_cell, stub_count}
use Rattle.search_tree.specs.Begun.{Begun, newest, number, pending, stub}
use Rattle.search_tree.specs.Outset.{MayBegin}
use Rattle.search_tree.specs.Partial.{Row, begin, cells, first_cells, first_row, held_from}
use Rattle.search_tree.specs.PartialBounds.{begun_bounds, finish_bounds, goals_met, link_bounds, partial_bounds, root_bounds, row_bounds, token_bounds}
use Rattle.search_tree.specs.Sound.{IsSound}
use Rattle.search_tree.specs.declared.held.Cell.{Cell}
use Rattle.search_tree.specs.declared.held.Held.{Held}

-- the next horizon's point comes after those of the plan
pub newest_is : (b : Begun) → newest b ≡ count b.base
newest_is b = let e : suc (length b.base) ≡ length b.base + 1 = omega arith in ap (hor (stub b)) e ∙ horizon_number b.base (pending b)

-- the goals of a mission's horizons are goals
pub holds_same : (s t : Schedule) (c : ℕ) → ((x : ℕ) → x < c → t x ≡ s x) → (bs : List Bound) → AllByRecursion (IsFit c) bs → AllByRecursion (Holds s) bs → AllByRecursion (Holds t) bs
holds_same s t c same [] f h = tt
holds_same s t c same (x ∷ bs) f h = (let a = same x.from.0 f.0.from in let e = same x.to.0 f.0.to in let g = h.0 in omega (arith, ints), holds_same s t c same bs f.1 h.1)

-- the tokens of the plan hold together
links_given : (t : Schedule) (b : Begun) (v i : ℕ) (ks : List Kind) → AllByRecursion (Holds t) (link_bounds (start_at b.base v i) (map given_cell (held_from b v i ks) ++ []))
links_given t b v i [] = tt
links_given t b v i (k ∷ ks) = (omega (arith, ints), (omega (arith, ints), links_given t b v (suc i) ks))

given_row : (m : Mission) (b : Begun) (t : Schedule) (v : ℕ) → AllByRecursion (Holds t) (row_bounds m b (record { given = held_from b v 0 (timeline_of (tokens_of b.base) v); added = []; finished = false }))
given_row m b t v = each_both (Holds t) (link_bounds 0 (map given_cell (held_from b v 0 (timeline_of (tokens_of b.base) v)) ++ [])) [] (links_given t b v 0 (timeline_of (tokens_of b.base) v)) tt

-- goals that have no token yet bound nothing
none_bound : (t : Schedule) (gs : List Goal) → AllByRecursion (Holds t) (goals_met gs (map (λ (g : Goal). None) gs))
none_bound t [] = tt
none_bound t (g ∷ gs) = none_bound t gs

-- the times of the root: those of the plan's schedule, then the horizon, then the least ends of first tokens
abbrev pub least_of : Option Value → ℤ
least_of None = pos 0
least_of (Some v) = v.lasts.low

abbrev pub first_value : Mission → ℕ → Option Value
first_value m v = elim (slice_get m.vars v) [ None ↦ None | Some var ↦ slice_get var.values var.begin.0 ]

abbrev pub root_times : Mission → Begun → Schedule → ℤ → Schedule
root_times m b t tick x = cond (nat_lt x (count b.base)) (t x) (cond (nat_eq x (count b.base)) tick (least_of (first_value m (x - suc (count b.base)))))

times_old : (m : Mission) (b : Begun) (t : Schedule) (tick : ℤ) (x : ℕ) → x < count b.base → root_times m b t tick x ≡ t x
times_old m b t tick x h = cond-true _ _ _ (lt-ltb x (count b.base) h)

times_mark : (m : Mission) (b : Begun) (t : Schedule) (tick : ℤ) (x : ℕ) → x ≡ count b.base → root_times m b t tick x ≡ tick
times_mark m b t tick x e = cond-false _ _ _ (le-ltb x (count b.base) (omega arith)) ∙ cond-true _ _ _ (eq-eqb x (count b.base) e)

times_first : (m : Mission) (b : Begun) (t : Schedule) (tick : ℤ) (x v : ℕ) → x ≡ suc (count b.base) + v → root_times m b t tick x ≡ least_of (first_value m v)
times_first m b t tick x v e =
    let less : x - suc (count b.base) ≡ v = omega arith in
    cond-false _ _ _ (le-ltb x (count b.base) (omega arith)) ∙ other (cases_Bool (nat_eq x (count b.base))) ∙ ap (λ n. least_of (first_value m n)) less
  where
    other : (nat_eq x (count b.base) ≡ true) ⊎ (nat_eq x (count b.base) ≡ false) → cond (nat_eq x (count b.base)) tick (least_of (first_value m (x - suc (count b.base)))) ≡ least_of (first_value m (x - suc (count b.base)))
    other (inl same) = let f : x ≡ count b.base = eqb-true _ _ same in absurd (omega arith)
    other (inr differ) = cond-false _ _ _ differ

-- the numbers from a on, n of them
pub each_number : (P : ℕ → Type 0) (a n : ℕ) → ((x : ℕ) → a ≤ x → x < a + n → P x) → AllByRecursion P (numbers_from a n)
each_number P a zero f = tt
each_number P a (suc n) f = (f a (omega arith) (omega arith), each_number P (a + 1) n (λ x low high. f x (omega arith) (omega arith)))

pub each_flat_map : {X Y : Type 0} (P : Y → Type 0) (f : X → List Y) (xs : List X) → AllByRecursion (λ x. AllByRecursion P (f x)) xs → AllByRecursion P (flat_map f xs)
each_flat_map P f [] h = tt
each_flat_map P f (x ∷ xs) h = each_both P (f x) (flat_map f xs) h.0 (each_flat_map P f xs h.1)

pub each_map : {X Y : Type 0} (P : Y → Type 0) (f : X → Y) (xs : List X) → AllByRecursion (λ x. P (f x)) xs → AllByRecursion P (map f xs)
each_map P f [] h = tt
each_map P f (x ∷ xs) h = (h.0, each_map P f xs h.1)

module _ (m : Mission) (b : Begun) (may : MayBegin m b) where
  abbrev pub root_schedule : Schedule
  root_schedule = root_times m b may.schedule may.horizon.tick

  some_points : 0 < count b.base
  some_points = let e = count_is b.base in omega arith

  origin_there : root_schedule 0 ≡ pos 0
  origin_there = times_old m b may.schedule may.horizon.tick 0 some_points ∙ may.ongoing.meets.origin

  tick_range : InRange (range (pos 1) LAST_HORIZON) may.horizon.tick
  tick_range = (horizon_is m (length b.base) may.horizon may.checked.mission may.is_horizon).tick

  mark_there : root_schedule (newest b) ≡ may.horizon.tick
  mark_there = times_mark m b may.schedule may.horizon.tick (newest b) (newest_is b)

  -- the plan's own bounds
  old_bounds : AllByRecursion (Holds root_schedule) (bounds_of m b.base)
  old_bounds = holds_same may.schedule root_schedule (count b.base) (λ x h. times_old m b may.schedule may.horizon.tick x h) (bounds_of m b.base) (bounds_fit m b.base may.checked.mission may.checked.rules) may.ongoing.meets.each

  -- the horizon's
  mark_bounds : AllByRecursion (Holds root_schedule) (horizon_bounds m (stub b) (number b))
  mark_bounds =
      let less : number b - 1 ≡ length b.base = omega arith in
      let is : slice_get m.horizons (number b - 1) ≡ Some may.horizon = ap (slice_get m.horizons) less ∙ may.is_horizon in
      let o = origin_there in
      let e = mark_there in
      let one : AllByRecursion (Holds root_schedule) (exactly (newest b) may.horizon.tick) = (omega (arith, ints), (omega (arith, ints), tt)) in
      subst (λ (o : Option Horizon). AllByRecursion (Holds root_schedule) (on_some o (λ (g : Horizon). exactly (newest b) g.tick))) (sym is) one

  point_there : AllByRecursion (Holds root_schedule) (point_bounds (count b.base) 1)
  point_there =
      let e = times_mark m b may.schedule may.horizon.tick (count b.base) refl in
      let o = origin_there in
      let low = tick_range.0 in
      let high = tick_range.1 in
      (omega (arith, ints), (omega (arith, ints), tt))

  -- what was executed
  fixed_there : (front ts : List Time) → EachAfter (KeepsFixedAt b.base (pending b)) front ts → AllByRecursion (λ (f : Time). may.schedule f.point.0 ≡ f.at) ts → AllByRecursion (Holds root_schedule) (fixed_bounds ts)
  fixed_there front [] h g = tt
  fixed_there front (f ∷ ts) h g =
      let e = times_old m b may.schedule may.horizon.tick f.point.0 h.0.below in
      let a = g.0 in
      let o = origin_there in
      (omega (arith, ints), (omega (arith, ints), fixed_there (front ++ f ∷ []) ts h.1 g.1))

  -- what wasn't
  since_there : AllByRecursion (Holds root_schedule) (since_bounds (stub b) b.since)
  since_there = each_flat_map (Holds root_schedule) (λ x. cond (is_fixed (stub b) x) [] (bound x 0 (neg_ℤ b.since) ∷ [])) (numbers_from 1 (count (stub b) - 1)) (each_number (λ x. AllByRecursion (Holds root_schedule) (cond (is_fixed (stub b) x) [] (bound x 0 (neg_ℤ b.since) ∷ []))) 1 (count (stub b) - 1) each)
    where
      each : (x : ℕ) → 1 ≤ x → x < 1 + (count (stub b) - 1) → AllByRecursion (Holds root_schedule) (cond (is_fixed (stub b) x) [] (bound x 0 (neg_ℤ b.since) ∷ []))
      each x low high = elim (cases_Bool (is_fixed (stub b) x)) [
        | inl set ↦ rw set tt
        | inr free ↦
            let o = origin_there in
            let size = stub_count b in
            rw free (elim (cases_lt x (count b.base)) [
              | inl old ↦
                  let e = times_old m b may.schedule may.horizon.tick x old in
                  let l = may.ongoing.later x (omega arith) old free in
                  (omega (arith, ints), tt)
              | inr new ↦
                  let e = times_mark m b may.schedule may.horizon.tick x (omega arith) in
                  let l = may.in_time in
                  (omega (arith, ints), tt)
            ])
      ]

  pub begun_there : AllByRecursion (Holds root_schedule) (begun_bounds m b)
  begun_there =
      each_both (Holds root_schedule) _ _ (each_both (Holds root_schedule) _ _ (each_both (Holds root_schedule) _ _ (each_both (Holds root_schedule) _ _ old_bounds mark_bounds) point_there) (fixed_there [] b.fixed may.fixed.each may.ongoing.agrees)) since_there

-- the first token of a variable, where no plan is extended
module _ (m : Mission) (since : ℤ) (fixed : List Time) (may : MayBegin m (record { base = []; since = since; fixed = fixed })) where
  abbrev pub new_begun : Begun
  new_begun = record { base = []; since = since; fixed = fixed }

  abbrev pub new_schedule : Schedule
  new_schedule = root_schedule m new_begun may

  stop_there : (v : ℕ) (val : Value) → first_value m v ≡ Some val → new_schedule (2 + v) ≡ val.lasts.low
  stop_there v val is = times_first m new_begun may.schedule may.horizon.tick (2 + v) v (omega arith) ∙ ap least_of is

  cell_there : (v : ℕ) (var : Var) (val : Value) → slice_get m.vars v ≡ Some var → slice_get var.values var.begin.0 ≡ Some val → AllByRecursion (Holds new_schedule) (token_bounds m new_begun (record { kind = record { sv = record { 0 = v }; value = var.begin }; start = 0; stop = 2 + v }))
  cell_there v var val is has =
      let first : first_value m v ≡ Some val = ap (λ (o : Option Var). elim o [ None ↦ None | Some var ↦ slice_get var.values var.begin.0 ]) is ∙ has in
      let known : value_of m (record { sv = record { 0 = v }; value = var.begin }) ≡ Some val = ap (λ (o : Option Var). elim o [ None ↦ None | Some var' ↦ slice_get var'.values var.begin.0 ]) is ∙ has in
      let lasts = (value_is m (record { sv = record { 0 = v }; value = var.begin }) val may.checked.mission known).1.lasts in
      let one = lasts.0 in
      let two = lasts.1 in
      let three = lasts.2 in
      let stop = stop_there v val first in
      let o = origin_there m new_begun may in
      let e = mark_there m new_begun may in
      let zero_since = may.at_first refl in
      let low = (tick_range m new_begun may).0 in
      let early : AllByRecursion (Holds new_schedule) (apart 0 0 whole ++ apart (2 + v) 0 whole) = (omega (arith, ints), (omega (arith, ints), (omega (arith, ints), (omega (arith, ints), tt)))) in
      let long : AllByRecursion (Holds new_schedule) (on_some (value_of m (record { sv = record { 0 = v }; value = var.begin })) (λ (x : Value). apart (2 + v) 0 x.lasts)) = subst (λ (x : Option Value). AllByRecursion (Holds new_schedule) (on_some x (λ (x : Value). apart (2 + v) 0 x.lasts))) (sym known) (omega (arith, ints), (omega (arith, ints), tt)) in
      let late : AllByRecursion (Holds new_schedule) (bound (newest new_begun) 0 (negsuc 0) ∷ bound (2 + v) 0 (neg_ℤ since) ∷ []) = (omega (arith, ints), (omega (arith, ints), tt)) in
      let lasting = on_some (value_of m (record { sv = record { 0 = v }; value = var.begin })) (λ (x : Value). apart (2 + v) 0 x.lasts) in
      each_both (Holds new_schedule) (apart 0 0 whole ++ apart (2 + v) 0 whole ++ lasting) (bound (newest new_begun) 0 (negsuc 0) ∷ bound (2 + v) 0 (neg_ℤ since) ∷ []) (each_both (Holds new_schedule) (apart 0 0 whole ++ apart (2 + v) 0 whole) lasting early long) late

  first_row_there : (v : ℕ) → v < length m.vars → AllByRecursion (Holds new_schedule) (row_bounds m new_begun (first_row m new_begun v))
  first_row_there v below =
      let var = get_or m.vars v (record { name = []; values = []; begin = record { 0 = 0 } }) in
      let is : slice_get m.vars v ≡ Some var = slice_get-get_or m.vars v _ below in
      let rules = each_at (IsVar (length m.words)) m.vars v var may.checked.mission.vars is in
      let val = get_or var.values var.begin.0 (record { name = []; lasts = whole; by_device = false; next = []; script = []; answers = [] }) in
      let has : slice_get var.values var.begin.0 ≡ Some val = slice_get-get_or var.values var.begin.0 _ rules.begin in
      let held : Held = record { kind = record { sv = record { 0 = v }; value = var.begin }; start = 0; stop = 2 + v } in
      let one : first_cells m new_begun v ≡ record { held = held; joined = true } ∷ [] = ap (λ (o : Option Var). on_some o (λ var. record { held = record { kind = record { sv = record { 0 = v }; value = var.begin }; start = 0; stop = 2 + v }; joined = true } ∷ [])) is in
      let o = origin_there m new_begun may in
      let tokens : AllByRecursion (Holds new_schedule) (token_bounds m new_begun held ++ []) = each_both (Holds new_schedule) (token_bounds m new_begun held) [] (cell_there v var val is has) tt in
      let links : AllByRecursion (Holds new_schedule) (together 0 0 ++ []) = (omega (arith, ints), (omega (arith, ints), tt)) in
      subst (λ (cs : List Cell). AllByRecursion (Holds new_schedule) (row_bounds m new_begun (record { given = []; added = cs; finished = false }))) (sym one)
      (each_both (Holds new_schedule) ((token_bounds m new_begun held ++ []) ++ (together 0 0 ++ [])) [] (each_both (Holds new_schedule) (token_bounds m new_begun held ++ []) (together 0 0 ++ []) tokens links) tt)

rows_there : (m : Mission) (b : Begun) (may : MayBegin m b) → AllByRecursion (Holds (root_schedule m b may)) (flat_map (row_bounds m b) (begin m b).rows)
rows_there m b may = by b.base b.since b.fixed may
  where
    by : (base : List Extension) (since : ℤ) (fixed : List Time) (may : MayBegin m (record { base = base; since = since; fixed = fixed })) → AllByRecursion (Holds (root_schedule m (record { base = base; since = since; fixed = fixed }) may)) (flat_map (row_bounds m (record { base = base; since = since; fixed = fixed })) (begin m (record { base = base; since = since; fixed = fixed })).rows)
    by [] since fixed may =
        let b : Begun = record { base = []; since = since; fixed = fixed } in
        each_flat_map (Holds (root_schedule m b may)) (row_bounds m b) (begin m b).rows
        (each_map (λ r. AllByRecursion (Holds (root_schedule m b may)) (row_bounds m b r)) (first_row m b) (numbers_from 0 (length m.vars))
        (each_number (λ v. AllByRecursion (Holds (root_schedule m b may)) (row_bounds m b (first_row m b v))) 0 (length m.vars) (λ v low high. first_row_there m since fixed may v (omega arith))))
    by (e ∷ es) since fixed may =
        let b : Begun = record { base = e ∷ es; since = since; fixed = fixed } in
        each_flat_map (Holds (root_schedule m b may)) (row_bounds m b) (begin m b).rows
        (each_map (λ r. AllByRecursion (Holds (root_schedule m b may)) (row_bounds m b r)) (first_row m b) (numbers_from 0 (length m.vars))
        (each_number (λ v. AllByRecursion (Holds (root_schedule m b may)) (row_bounds m b (first_row m b v))) 0 (length m.vars) (λ v low high. given_row m b (root_schedule m b may) v)))

-- the root has a schedule
pub root_meets : (m : Mission) (b : Begun) (may : MayBegin m b) → Meets (partial_bounds m b (begin m b)) (root_schedule m b may)
root_meets m b may = record {
  origin = origin_there m b may;
  each =
      each_both (Holds (root_schedule m b may)) (begun_bounds m b ++ flat_map (row_bounds m b) (begin m b).rows ++ []) (goals_met (goals_of m (number b)) (begin m b).goals)
      (each_both (Holds (root_schedule m b may)) (begun_bounds m b ++ flat_map (row_bounds m b) (begin m b).rows) [] (each_both (Holds (root_schedule m b may)) (begun_bounds m b) (flat_map (row_bounds m b) (begin m b).rows) (begun_there m b may) (rows_there m b may)) tt)
      (none_bound (root_schedule m b may) (goals_of m (number b)));
}

-- and is sound
pub root_sound : (m : Mission) (b : Begun) → MayBegin m b → IsSound m b (begin m b)
root_sound m b may = by b.base b.since b.fixed may
  where
    below : (base : List Extension) (e : Extension) (front ts : List Time) → EachAfter (KeepsFixedAt base e) front ts → AllByRecursion (λ (f : Time). f.point.0 < count base) ts
    below base e front [] h = tt
    below base e front (f ∷ ts) h = (h.0.below, below base e (front ++ f ∷ []) ts h.1)

    by : (base : List Extension) (since : ℤ) (fixed : List Time) → MayBegin m (record { base = base; since = since; fixed = fixed }) → IsSound m (record { base = base; since = since; fixed = fixed }) (begin m (record { base = base; since = since; fixed = fixed }))
    by [] since fixed may = sound_first m since fixed (below [] _ [] fixed may.fixed.each)
    by (e ∷ es) since fixed may =
        sound_later m e es since fixed (λ v h. has_tokens m (e ∷ es) may.checked.rules (λ none. absurd (cc)) v h)
        (each_weaker (IsFit (count (e ∷ es))) (IsBelow (suc (count (e ∷ es)))) (λ x h. let from = h.from in let to = h.to in (omega arith, omega arith)) (bounds_of m (e ∷ es)) (bounds_fit m (e ∷ es) may.checked.mission may.checked.rules))
        (below (e ∷ es) _ [] fixed may.fixed.each)

-- a row where the search begins is linked by itself
root_links : (m : Mission) (b : Begun) (t : Schedule) (v : ℕ) → AllByRecursion (Holds t) (flat_map (λ (c : Cell). token_bounds m b c.held) (first_row m b v).added) → AllByRecursion (Holds t) (row_bounds m b (first_row m b v))
root_links m b t v h = by b.base b.since b.fixed h
  where
    first : (b : Begun) (o : Option Var) (f : Var → Cell) → ((var : Var) → (f var).held.start ≡ 0) → ((var : Var) → (f var).joined ≡ true) → AllByRecursion (Holds t) (link_bounds 0 (on_some o (λ var. f var ∷ [])))
    first b None f start joined = tt
    first b (Some var) f start joined = rw (joined var) (let e = ap t (start var) in (omega (arith, ints), (omega (arith, ints), tt)))

    by : (base : List Extension) (since : ℤ) (fixed : List Time) → AllByRecursion (Holds t) (flat_map (λ (c : Cell). token_bounds m (record { base = base; since = since; fixed = fixed }) c.held) (first_row m (record { base = base; since = since; fixed = fixed }) v).added) → AllByRecursion (Holds t) (row_bounds m (record { base = base; since = since; fixed = fixed }) (first_row m (record { base = base; since = since; fixed = fixed }) v))
    by [] since fixed h =
        let b : Begun = record { base = []; since = since; fixed = fixed } in
        let tokens = flat_map (λ (c : Cell). token_bounds m b c.held) (first_cells m b v) in
        let links = link_bounds 0 (first_cells m b v) in
        each_both (Holds t) (tokens ++ links) [] (each_both (Holds t) tokens links h
        (first b (slice_get m.vars v) (λ var. record { held = record { kind = record { sv = record { 0 = v }; value = var.begin }; start = 0; stop = count (stub b) + v }; joined = true }) (λ var. refl) (λ var. refl))) tt
    by (e ∷ es) since fixed h = given_row m (record { base = e ∷ es; since = since; fixed = fixed }) t v

rows_linked : (m : Mission) (b : Begun) (t : Schedule) (vs : List ℕ) → AllByRecursion (Holds t) (flat_map (λ (r : Row). flat_map (λ (c : Cell). token_bounds m b c.held) r.added) (map (first_row m b) vs)) → AllByRecursion (Holds t) (flat_map (row_bounds m b) (map (first_row m b) vs))
rows_linked m b t [] h = tt
rows_linked m b t (v ∷ vs) h =
    let new = flat_map (λ (c : Cell). token_bounds m b c.held) (first_row m b v).added in
    let s = each_split (Holds t) new _ h in
    each_both (Holds t) (row_bounds m b (first_row m b v)) (flat_map (row_bounds m b) (map (first_row m b) vs)) (root_links m b t v s.0) (rows_linked m b t vs s.1)

rows_tokens : (m : Mission) (b : Begun) (t : Schedule) (rs : List Row) → AllByRecursion (Holds t) (flat_map (row_bounds m b) rs) → AllByRecursion (Holds t) (flat_map (λ (r : Row). flat_map (λ (c : Cell). token_bounds m b c.held) r.added) rs)
rows_tokens m b t [] h = tt
rows_tokens m b t (r ∷ rs) h =
    let new = flat_map (λ (c : Cell). token_bounds m b c.held) r.added in
    let s = each_split (Holds t) (row_bounds m b r) (flat_map (row_bounds m b) rs) h in
    let n = each_split (Holds t) (new ++ link_bounds 0 (cells r)) (finish_bounds b r) s.0 in
    each_both (Holds t) new _ (each_split (Holds t) new (link_bounds 0 (cells r)) n.0).0 (rows_tokens m b t rs s.1)

-- the root has the schedules of its plain bounds
pub root_tells : (m : Mission) (b : Begun) (t : Schedule) → Meets (root_bounds m b (begin m b)) t → Meets (partial_bounds m b (begin m b)) t
root_tells m b t h =
    let rows = (begin m b).rows in
    let s = each_split (Holds t) (begun_bounds m b) _ h.each in
    record {
      origin = h.origin;
      each =
          each_both (Holds t) (begun_bounds m b ++ flat_map (row_bounds m b) rows ++ []) (goals_met (goals_of m (number b)) (begin m b).goals)
          (each_both (Holds t) (begun_bounds m b ++ flat_map (row_bounds m b) rows) [] (each_both (Holds t) (begun_bounds m b) (flat_map (row_bounds m b) rows) s.0 (rows_linked m b t (numbers_from 0 (length m.vars)) s.1)) tt)
          (none_bound t (goals_of m (number b)));
    }

pub root_keeps : (m : Mission) (b : Begun) (t : Schedule) → Meets (partial_bounds m b (begin m b)) t → Meets (root_bounds m b (begin m b)) t
root_keeps m b t h =
    let rows = (begin m b).rows in
    let x = each_split (Holds t) (begun_bounds m b ++ flat_map (row_bounds m b) rows ++ []) (goals_met (goals_of m (number b)) (begin m b).goals) h.each in
    let y = each_split (Holds t) (begun_bounds m b ++ flat_map (row_bounds m b) rows) [] x.0 in
    let z = each_split (Holds t) (begun_bounds m b) (flat_map (row_bounds m b) rows) y.0 in
    record { origin = h.origin; each = each_both (Holds t) (begun_bounds m b) _ z.0 (rows_tokens m b t rows z.1) }
