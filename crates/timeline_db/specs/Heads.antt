-- First elements of lists.
use Rattle.std.specs.Prelude.{◌≡◌, List, [], ◌∷◌, Option, None, Some}

pub record IsHead {X : Type 0} (xs : List X) (x : X) : Type 0 where
  pub rest : List X
  pub is : xs ≡ x ∷ rest

-- the first element, or there is none
abbrev pub MaybeHead : {X : Type 0} → List X → Option X → Type 0
MaybeHead xs None = xs ≡ []
MaybeHead xs (Some x) = IsHead xs x
