-- What `print` makes of an input.
use Rattle.std.specs.Prelude.{◌≡◌, ℕ, List}
use Rattle.hs_texts.specs.declared.ast.Ast.{Ast}
use Rattle.hs_base.specs.declared.mission.Mission.{Mission}
use Rattle.hs_texts.specs.CanonicalText.{canonical}
use Rattle.hs_texts.specs.MissionMeaning.{Means}
use Rattle.hs_texts.specs.MissionSpelling.{Spells, IsRefusalOf}
use Rattle.commands.specs.Inputs.{IsRefused}
use Rattle.commands.specs.declared.status.Status.{Status}
use Rattle.commands.specs.declared.status.Status.TheVariants.{Done, Refused}

-- the bytes spell an accepted mission
pub record IsAccepted (bytes : List ℕ) (ast : Ast) : Type 0 where
  pub spells : Spells bytes ast
  pub mission : Mission
  pub means : Means ast mission

-- and its one canonical text is written
pub record IsPrinted (bytes text : List ℕ) : Type 0 where
  pub ast : Ast
  pub accepted : IsAccepted bytes ast
  pub is : text ≡ canonical ast

abbrev pub Prints : List ℕ → Status → List ℕ → Type 0
Prints bytes Done text = IsPrinted bytes text
Prints bytes Refused text = IsRefused (IsRefusalOf bytes) text
Prints bytes _ text = ⊥
