-- Trees by their children, and what a search in preorder with a budget of nodes finds.
use Rattle.std.specs.List.{AllByRecursion}
use Rattle.std.specs.Prelude.{List, [], length, ℕ, ◌++◌, ◌<◌, ◌∷◌, ◌≡◌, ◌≤◌}

-- `Kids n ns` says that ns are the children of n in order
module _ {N : Type 0} (Kids : N → List N → Type 0) where
  -- the first nodes of a forest in preorder, and the trees that are left after them
  abbrev pub Preorder : List N → List N → List N → Type 0
  Preorder forest [] rest = forest ≡ rest
  Preorder [] (v ∷ vs) rest = ⊥
  Preorder (n ∷ forest) (v ∷ vs) rest = (v ≡ n) × ((ns : List N) × Kids n ns × Preorder (ns ++ forest) vs rest)

pub data Found (E : Type 0) : Type 0 where
  plan : E → Found E
  no_plan : Found E
  budget : List ℕ → Found E

module _ {N E : Type 0} (Kids : N → List N → Type 0) (Ends : N → E → Type 0) (path : N → List ℕ) where
  -- none of the nodes ends the search
  abbrev pub NoneEnds : List N → Type 0
  NoneEnds vs = AllByRecursion (λ n. (e : E) → Ends n e → ⊥) vs

  -- what the search finds among the first b nodes of the tree: the first one that ends it; or that there is none
  -- and no further node; or the path of the next node
  abbrev pub Finds : N → ℕ → Found E → Type 0
  Finds root b (plan e) = (before : List N) × (n : N) × (rest : List N) × Preorder Kids (root ∷ []) before (n ∷ rest) × NoneEnds before × Ends n e × (length before < b)
  Finds root b no_plan = (all : List N) × Preorder Kids (root ∷ []) all [] × NoneEnds all × (length all ≤ b)
  Finds root b (budget p) = (before : List N) × (n : N) × (rest : List N) × Preorder Kids (root ∷ []) before (n ∷ rest) × NoneEnds before × (length before ≡ b) × (p ≡ path n)

  -- so many nodes lead to it: it is found within them, and with fewer the budget ends first
  abbrev pub FindsAt : N → ℕ → Found E → Type 0
  FindsAt root nodes found = Finds root nodes found × ((fewer : ℕ) → fewer < nodes → (p : List ℕ) × Finds root fewer (budget p))
