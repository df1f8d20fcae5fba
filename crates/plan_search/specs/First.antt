-- What is found where nothing has happened yet.
use Rattle.std.specs.Prelude.{◌≡◌, ℕ, pos, List, [], ◌∷◌, ⊤}
use Rattle.hs_base.specs.declared.mission.Mission.{Mission}
use Rattle.hs_base.specs.declared.plan.Extension.{Extension}
use Rattle.hs_base.specs.Checked.{Checked, joined}
use Rattle.search_tree.specs.Begun.{Begun}
use Rattle.search_tree.specs.Search.{FindsPlan}
use Rattle.search_tree.specs.Tree.{Found, plan, no_plan, budget}
use Rattle.plan_search.specs.declared.unplanned.Unplanned.{Unplanned}
use Rattle.plan_search.specs.declared.unplanned.Unplanned.TheVariants.{NoPlan, Budget, Memory}

-- there is no plan, and nothing has happened
abbrev pub outset : Begun
outset = record { base = []; since = pos 0; fixed = [] }

-- es is the plan with what a search from there finds
pub record IsPlannedFrom (m : Mission) (b : Begun) (nodes : ℕ) (es : List Extension) : Type 0 where
  pub extension : Extension
  pub is : es ≡ joined b.base extension
  pub found : FindsPlan m b nodes (plan extension)

-- it finds none
abbrev pub IsUnplannedFrom : Mission → Begun → ℕ → Unplanned → Type 0
IsUnplannedFrom m b nodes NoPlan = FindsPlan m b nodes no_plan
IsUnplannedFrom m b nodes (Budget path) = FindsPlan m b nodes (budget path)
IsUnplannedFrom m b nodes Memory = ⊤

-- what a search for the first plan finds within so many nodes
abbrev pub FindsFirst : Mission → ℕ → Found Extension → Type 0
FindsFirst m nodes found = FindsPlan m outset nodes found

-- es is the plan that it finds, and keeps the rules
pub record IsPlanned (m : Mission) (nodes : ℕ) (es : List Extension) : Type 0 where
  pub extension : Extension
  pub is : es ≡ extension ∷ []
  pub found : FindsFirst m nodes (plan extension)
  pub checked : Checked m es

-- it finds none
abbrev pub IsUnplanned : Mission → ℕ → Unplanned → Type 0
IsUnplanned m nodes why = IsUnplannedFrom m outset nodes why
