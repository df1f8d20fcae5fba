-- The search tree of a snapshot, and what a search of it finds.
use Rattle.std.specs.Prelude.{List, [], ℕ, ◌++◌, ◌∷◌, ◌≡◌, ◌⊎◌}
use Rattle.hs_base.specs.Checked.{joined}
use Rattle.hs_base.specs.declared.mission.Mission.{Mission}
use Rattle.hs_base.specs.declared.plan.Extension.{Extension}
use Rattle.search_tree.specs.Begun.{Begun}
use Rattle.search_tree.specs.Extends.{extension}
use Rattle.search_tree.specs.Flaws.{flat_map_from, flaws}
use Rattle.search_tree.specs.Partial.{Partial, begin}
use Rattle.search_tree.specs.PartialBounds.{HasSchedule}
use Rattle.search_tree.specs.Resolvers.{resolve, resolvers}
use Rattle.search_tree.specs.Tree.{Finds, FindsAt, Found}

-- a partial plan, with the numbers of the children that lead to it from the root
pub record Node : Type 0 where
  pub path : List ℕ
  pub plan : Partial

abbrev pub root : Mission → Begun → Node
root m b = record { path = []; plan = begin m b }

-- a child for each resolver of the first flaw, numbered from 0
abbrev pub offspring : Mission → Begun → Node → List Node
offspring m b n =
    elim (flaws m b n.plan) [
      | [] ↦ []
      | (f ∷ fs) ↦ flat_map_from (λ i r. record { path = n.path ++ i ∷ []; plan = resolve n.plan f r } ∷ []) 0 (resolvers m b n.plan f)
    ]

-- a node whose bounds have no schedule has no children
abbrev pub Kids : Mission → Begun → Node → List Node → Type 0
Kids m b n ns = (HasSchedule m b n.plan × (ns ≡ offspring m b n)) ⊎ ((HasSchedule m b n.plan → ⊥) × (ns ≡ []))

-- the node has a schedule and no flaw, and this is its extension
pub record IsFinished (m : Mission) (b : Begun) (n : Node) (e : Extension) : Type 0 where
  pub schedule : HasSchedule m b n.plan
  pub flawless : flaws m b n.plan ≡ []
  pub is : e ≡ extension m b n.plan

-- and the plan with it is taken: the claim holds of it
pub record IsTaken (takes : Mission → List Extension → Type 0) (m : Mission) (b : Begun) (n : Node) (e : Extension) : Type 0 where
  pub finished : IsFinished m b n e
  pub taken : takes m (joined b.base e)

-- what a search with that budget of nodes finds, where any plan is taken
abbrev pub FindsPlan : Mission → Begun → ℕ → Found Extension → Type 0
FindsPlan m b limit found = Finds (Kids m b) (IsFinished m b) (λ n. n.path) (root m b) limit found

-- and so many nodes lead to it
abbrev pub FindsPlanAt : Mission → Begun → ℕ → Found Extension → Type 0
FindsPlanAt m b nodes found = FindsAt (Kids m b) (IsFinished m b) (λ n. n.path) (root m b) nodes found

-- the same of plans that are taken
abbrev pub FindsWhere : (Mission → List Extension → Type 0) → Mission → Begun → ℕ → Found Extension → Type 0
FindsWhere takes m b limit found = Finds (Kids m b) (IsTaken takes m b) (λ n. n.path) (root m b) limit found

abbrev pub FindsWhereAt : (Mission → List Extension → Type 0) → Mission → Begun → ℕ → Found Extension → Type 0
FindsWhereAt takes m b nodes found = FindsAt (Kids m b) (IsTaken takes m b) (λ n. n.path) (root m b) nodes found
