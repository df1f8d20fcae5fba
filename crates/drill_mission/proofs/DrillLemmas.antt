-- The drill of each size is a mission.
use Rattle.std.proofs.Common.{◌≡◌, ◌≢◌, ℕ, zero, suc, ◌+◌, ◌*◌, ◌%◌, ◌<◌, ◌≤◌, ◌<ℤ◌, List, [], ◌∷◌, map, Some, codes, refl, arith, rules}
use Rattle.std.specs.Prelude.{slice_get}
use Rattle.std.specs.List.{AllByRecursion, range_with_len}
use Rattle.std.proofs.lemmas.List.FromFn.{length-map-range_with_len}
use Rattle.std.proofs.lemmas.Int.{ints}
use Rattle.hs_base.specs.declared.mission.Var.{Var}
use Rattle.hs_base.specs.declared.mission.Horizon.{Horizon}
use Rattle.hs_base.specs.declared.mission.Need.{Need}
use Rattle.hs_base.specs.Walks.{AreDifferent}
use Rattle.hs_base.specs.Names.{IsName}
use Rattle.hs_base.specs.Missions.{IsKindOf, IsVar, IsNeed, IsHorizon, IsMission}
use Rattle.base_laws.specs.Samples.{kind}
use Rattle.rand_pcg.specs.Lcg.{Lcg}
use Rattle.drill_mission.specs.Drill.{drawn_horizon, drill_horizon, drill_mission, drill_vars, switch_values, variable, variable_name, work_need, worker}
use Rattle.drill_mission.specs.Words.{after_word, draws, next_word, word}
use Rattle.drill_mission.proofs.WordLemmas.{word_after, word_is}
use Rattle.drill_mission.proofs.NumberLemmas.{at_number, each_number, in_order}

-- variable i + 1 works
pub works : (i : ℕ) → i < 7 → slice_get drill_vars (suc i) ≡ Some (worker (1 + i))
works i h = at_number worker 1 7 i h

-- the work of a variable from 1 to 7 is a kind
pub work_is_kind : (i : ℕ) → 1 ≤ i → i < 8 → IsKindOf drill_vars (kind i 1)
work_is_kind zero l u = absurd (omega arith)
work_is_kind (suc i) l u = (worker (1 + i), works i (omega arith), search rules)

-- that variable 0 is on is a kind
on_is_kind : IsKindOf drill_vars (kind 0 1)
on_is_kind = (variable 0 switch_values, refl, search rules)

-- the switch keeps the rules
switch_is_var : IsVar 1 (variable 0 switch_values)
switch_is_var = search rules

-- so does a worker of a name that keeps them
worker_is_var : (i : ℕ) → IsName (variable_name i) → IsVar 1 (worker i)
worker_is_var i name = record {
  name = name;
  some_values = search rules;
  few_values = search rules;
  values_differ = search rules;
  values = search rules;
  begin = search rules;
}

vars_are : AllByRecursion (IsVar 1) drill_vars
vars_are = (
  switch_is_var,
  (
    worker_is_var 1 (search rules),
    (
      worker_is_var 2 (search rules),
      (
        worker_is_var 3 (search rules),
        (
          worker_is_var 4 (search rules),
          (worker_is_var 5 (search rules), (worker_is_var 6 (search rules), (worker_is_var 7 (search rules), tt))),
        ),
      ),
    ),
  ),
)

-- two numbers have two names
names_apart : (i j : ℕ) → i < j → variable_name i ≢ variable_name j
names_apart i j less same =
    let digits : (48 + i) ∷ [] ≡ (48 + j) ∷ [] = cc in
    let digit : 48 + i ≡ 48 + j = cc in
    omega arith

names_differ : AreDifferent (map (λ (v : Var). v.name) drill_vars)
names_differ = in_order (λ a b. a ≢ b) variable_name names_apart 8

-- the work of each variable asks for what can be
need_is : (i : ℕ) → 1 ≤ i → i < 8 → IsNeed drill_vars (work_need i)
need_is i l u = record {
  kind = work_is_kind i l u;
  some_choices = search rules;
  few_choices = search rules;
  choices = (record { kind = on_is_kind; other_variable = λ e. omega arith; ranges = search rules }, tt);
  kinds_differ = search rules;
}

-- a horizon keeps the rules whatever the words are
horizon_is : (k v w : ℕ) → k < 1000 → IsHorizon drill_vars (drawn_horizon k v w)
horizon_is k v w few = record {
  tick = (omega (arith, ints), omega (arith, ints));
  few_goals = search rules;
  goals = (record { kind = work_is_kind (1 + v % 7) (omega arith) (omega arith); start = (omega (arith, ints), omega (arith, ints), omega (arith, ints)); stop = search rules }, tt);
}

-- the horizons rise
rises : (seed i j : ℕ) → i < j → (drill_horizon seed i).tick <ℤ (drill_horizon seed j).tick
rises seed i j less = omega (arith, ints)

-- the drill of each size is a mission
pub drill_is_mission : (size seed : ℕ) → 1 ≤ size → size ≤ 1000 → IsMission (drill_mission size seed)
unfolding drill_mission
drill_is_mission size seed some few = record {
  some_vars = search rules;
  few_vars = search rules;
  vars_differ = names_differ;
  vars = vars_are;
  few_needs = search rules;
  needs = each_number (IsNeed drill_vars) work_need 1 7 need_is;
  some_horizons = omega (arith, length-map-range_with_len (drill_horizon seed) 0 size);
  few_horizons = omega (arith, length-map-range_with_len (drill_horizon seed) 0 size);
  horizons = each_number (IsHorizon drill_vars) (drill_horizon seed) 0 size (λ k l u. horizon_is k (word seed (2 * k)) (word seed (2 * k + 1)) (omega arith));
  rising = in_order (λ (a b : Horizon). a.tick <ℤ b.tick) (drill_horizon seed) (rises seed) size;
  done_first = search rules;
  words = search rules;
  words_differ = search rules;
}

-- the horizon that the next two words draw
pub horizon_drawn : (seed k : ℕ) (g : Lcg) (h : Horizon) → g ≡ draws seed (2 * k) → h ≡ drawn_horizon k (next_word g) (next_word (after_word g)) → h ≡ drill_horizon seed k
horizon_drawn seed k g h at is = rw (is, at, word_is seed (2 * k), word_after seed (2 * k)) refl

-- a mission of the drill's parts is the drill
pub drill_of_parts : (size seed : ℕ) (vars : List Var) (needs : List Need) (horizons : List Horizon) (words : List (List ℕ))
    → vars ≡ drill_vars → needs ≡ map work_need (range_with_len 1 7) → horizons ≡ map (drill_horizon seed) (range_with_len 0 size) → words ≡ codes "done" ∷ []
    → record { vars = vars; needs = needs; horizons = horizons; words = words } ≡ drill_mission size seed
unfolding drill_mission
drill_of_parts size seed vars needs horizons words a b c d = rw (a, b, c, d) refl
