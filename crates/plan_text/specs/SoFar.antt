-- A written plan so far, with the counts that are kept of it.
use Rattle.std.specs.Prelude.{◌≡◌, ℕ, List, map, length, filter, slice_get, Option, Some}
use Rattle.std.specs.List.{position}
use Rattle.std.specs.Str.{bytes_eq}
use Rattle.hs_base.specs.declared.mission.Mission.{Mission}
use Rattle.hs_base.specs.declared.mission.Value.{Value}
use Rattle.hs_base.specs.declared.mission.Var.{Var}
use Rattle.hs_texts.specs.declared.written.WrittenKind.{WrittenKind}
use Rattle.hs_texts.specs.declared.written.WrittenExtension.{WrittenExtension}

-- the extensions of a mission's plan
pub record SoFar : Type 0 where
  pub mission : Mission
  pub extensions : List WrittenExtension

-- where the first variable of that name stands
abbrev pub variable_at : List Var → List ℕ → Option ℕ
variable_at vars name = position (λ (v : Var). bytes_eq v.name name) vars

-- where the first value of that name stands
abbrev pub value_at : List Value → List ℕ → Option ℕ
value_at values name = position (λ (v : Value). bytes_eq v.name name) values

-- how many of the names are this one
abbrev pub times_named : List ℕ → List (List ℕ) → ℕ
times_named name names = length (filter (bytes_eq name) names)

-- the numbers count how often each variable is named
abbrev pub Counts : List Var → List (List ℕ) → List ℕ → Type 0
Counts vars names counts = (name : List ℕ) (v : ℕ) → variable_at vars name ≡ Some v → slice_get counts v ≡ Some (times_named name names)

abbrev pub names_of_kinds : List WrittenKind → List (List ℕ)
names_of_kinds tokens = map (λ (k : WrittenKind). k.sv) tokens
