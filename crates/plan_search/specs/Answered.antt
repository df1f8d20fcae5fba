-- What a search answers, and the steps that it makes.
use Rattle.std.specs.Prelude.{List, ℕ, ⊤, ◌+◌, ◌≡◌}
use Rattle.hs_base.specs.Checked.{joined}
use Rattle.hs_base.specs.declared.mission.Mission.{Mission}
use Rattle.hs_base.specs.declared.plan.Extension.{Extension}
use Rattle.plan_check.specs.Planned.{Planned}
use Rattle.plan_search.specs.declared.unplanned.Unplanned.{Unplanned}
use Rattle.plan_search.specs.declared.unplanned.Unplanned.TheVariants.{Budget, Memory, NoPlan}
use Rattle.search_tree.specs.Begun.{Begun}
use Rattle.search_tree.specs.Search.{FindsWhere, FindsWhereAt}
use Rattle.search_tree.specs.Tree.{Found, budget, no_plan, plan}

-- it is the plan with the extension that so many nodes lead to
pub record IsPlanAt (takes : Mission → List Extension → Type 0) (m : Mission) (b : Begun) (nodes : ℕ) (c : Planned) : Type 0 where
  pub extension : Extension
  pub mission : c.mission ≡ m
  pub is : c.plan.extensions ≡ joined b.base extension
  pub leads : FindsWhereAt takes m b nodes (plan extension)

-- it is found within the budget, with a step for each of the nodes that lead to it
pub record FindsInSteps (takes : Mission → List Extension → Type 0) (m : Mission) (b : Begun) (limit before after : ℕ) (found : Found Extension) : Type 0 where
  pub finds : FindsWhere takes m b limit found
  pub nodes : ℕ
  pub leads : FindsWhereAt takes m b nodes found
  pub steps : after ≡ before + nodes

-- it is the plan with the extension that is found
pub record IsPlanFound (takes : Mission → List Extension → Type 0) (m : Mission) (b : Begun) (limit before after : ℕ) (c : Planned) : Type 0 where
  pub extension : Extension
  pub mission : c.mission ≡ m
  pub is : c.plan.extensions ≡ joined b.base extension
  pub found : FindsInSteps takes m b limit before after (plan extension)

-- none is found
abbrev pub IsNoneFound : (Mission → List Extension → Type 0) → Mission → Begun → ℕ → ℕ → ℕ → Unplanned → Type 0
IsNoneFound takes m b limit before after NoPlan = FindsInSteps takes m b limit before after no_plan
IsNoneFound takes m b limit before after (Budget path) = FindsInSteps takes m b limit before after (budget path)
IsNoneFound takes m b limit before after Memory = ⊤
