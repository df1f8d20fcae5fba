-- What the check of one rule answers.
use Rattle.std.specs.Prelude.{◌≡◌, ◌⊎◌, List, [], ◌∷◌, Result, Ok, Err}
use Rattle.hs_texts.specs.declared.refusal.Refusal.{Refusal}
use Rattle.hs_texts.specs.declared.refusal.Refusal.TheVariants.{Memory as NoMemory}

-- the refusal tells of the first that breaks the rule
pub record IsFirst {X : Type 0} (told : X → Refusal) (broken : List X) (r : Refusal) : Type 0 where
  pub item : X
  pub others : List X
  pub here : broken ≡ item ∷ others
  pub said : r ≡ told item

-- so it does, or memory ran out
pub record IsRefused {X : Type 0} (told : X → Refusal) (broken : List X) (r : Refusal) : Type 0 where
  pub refused : (r ≡ NoMemory) ⊎ IsFirst told broken r

-- what a check answers where all these break the rule
abbrev pub Tells : {X A : Type 0} → (X → Refusal) → List X → Result A Refusal → Type 0
Tells told broken (Ok a) = broken ≡ []
Tells told broken (Err r) = IsRefused told broken r
