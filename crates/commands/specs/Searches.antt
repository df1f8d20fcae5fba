-- What is told of the search of a mission's first plan.
use Rattle.std.specs.Prelude.{◌≡◌, ℕ, List, [], ◌∷◌, ◌++◌}
use Rattle.hs_base.specs.declared.mission.Mission.{Mission}
use Rattle.hs_base.specs.declared.plan.Extension.{Extension}
use Rattle.hs_base.specs.Checked.{Checked}
use Rattle.hs_texts.specs.ClosingText.{no_plan_line, budget_line}
use Rattle.search_tree.specs.Tree.{Found, plan, no_plan, budget}
use Rattle.plan_search.specs.First.{FindsFirst}
use Rattle.commands.specs.declared.status.Status.{Status}
use Rattle.commands.specs.declared.status.Status.TheVariants.{Done, NoPlan, Budget}

-- of a plan this is told; else a line behind the head says that there is none, or where the nodes ended
abbrev pub IsToldOf : Mission → List ℕ → (List Extension → List ℕ → Type 0) → Found Extension → Status → List ℕ → Type 0
IsToldOf m head What (plan e) status text = (status ≡ Done) × Checked m (e ∷ []) × What (e ∷ []) text
IsToldOf m head What no_plan status text = (status ≡ NoPlan) × (text ≡ head ++ no_plan_line 0)
IsToldOf m head What (budget path) status text = (status ≡ Budget) × (text ≡ head ++ budget_line 0 path)

-- what the search with so many nodes finds is told
pub record Searches (m : Mission) (nodes : ℕ) (head : List ℕ) (What : List Extension → List ℕ → Type 0) (status : Status) (text : List ℕ) : Type 0 where
  pub found : Found Extension
  pub finds : FindsFirst m nodes found
  pub told : IsToldOf m head What found status text
