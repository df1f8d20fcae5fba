-- The drill: a mission with as many horizons as it is told, whose goals are drawn from a seed.
use Rattle.std.specs.Prelude.{ℕ, ◌+◌, ◌*◌, ◌%◌, pos, List, [], ◌∷◌, ◌++◌, map, codes}
use Rattle.std.specs.List.{range_with_len}
use Rattle.hs_base.specs.declared.limits.TheConstants.{LAST}
use Rattle.hs_base.specs.declared.relation.Relation.TheVariants.{ContainedBy}
use Rattle.hs_base.specs.declared.mission.Value.{Value}
use Rattle.hs_base.specs.declared.mission.Var.{Var}
use Rattle.hs_base.specs.declared.mission.Need.{Need}
use Rattle.hs_base.specs.declared.mission.Horizon.{Horizon}
use Rattle.hs_base.specs.declared.mission.Mission.{Mission}
use Rattle.hs_base.specs.Ranges.{range, whole}
use Rattle.base_laws.specs.Samples.{device_value, kind, plain_value, value_id}
use Rattle.drill_mission.specs.Words.{word}

-- the letter v and the variable's digit
abbrev pub variable_name : ℕ → List ℕ
variable_name i = codes "v" ++ (48 + i) ∷ []

-- variable 0 is switched off and on
abbrev pub switch_values : List Value
switch_values = plain_value (codes "off") (range (pos 1) LAST) (value_id 1 ∷ []) ∷ plain_value (codes "on") (range (pos 1) LAST) (value_id 0 ∷ []) ∷ []

-- each other variable rests and works, and the device ends its work after 3 ticks
abbrev pub worker_values : List Value
worker_values = plain_value (codes "rest") (range (pos 1) LAST) (value_id 1 ∷ []) ∷ device_value (codes "work") (range (pos 2) (pos 4)) (value_id 0 ∷ []) (pos 3) ∷ []

-- a variable of that number, which begins with the first of its values
abbrev pub variable : ℕ → List Value → Var
variable i values = record { name = variable_name i; values = values; begin = value_id 0 }

abbrev pub worker : ℕ → Var
worker i = variable i worker_values

abbrev pub drill_vars : List Var
drill_vars = variable 0 switch_values ∷ map worker (range_with_len 1 7)

-- variable i works while variable 0 is on
abbrev pub work_need : ℕ → Need
work_need i = record { of = kind i 1; either = record { relation = ContainedBy whole whole; by = kind 0 1 } ∷ [] }

-- the horizon after k others: v draws the variable that has to work, and w how late its work may start
abbrev pub drawn_horizon : ℕ → ℕ → ℕ → Horizon
drawn_horizon k v w = record {
  tick = pos (50 * (k + 1));
  goals = record { kind = kind (1 + v % 7) 1; start = range (pos (50 * k + 10)) (pos (50 * k + 20 + w % 20)); stop = whole } ∷ [];
}

-- each horizon takes the next two words of the seed
abbrev pub drill_horizon : ℕ → ℕ → Horizon
drill_horizon seed k = drawn_horizon k (word seed (2 * k)) (word seed (2 * k + 1))

-- the drill of that size
unfoldable pub drill_mission : ℕ → ℕ → Mission
drill_mission size seed = record {
  vars = drill_vars;
  needs = map work_need (range_with_len 1 7);
  horizons = map (drill_horizon seed) (range_with_len 0 size);
  words = codes "done" ∷ [];
}
