-- What the bytes of an input spell.
use Rattle.std.specs.Prelude.{◌≡◌, ◌≢◌, ◌⊎◌, ℕ, List, length}
use Rattle.hs_texts.specs.declared.ast.Ast.{Ast}
use Rattle.hs_base.specs.declared.mission.Mission.{Mission}
use Rattle.hs_base.specs.declared.plan.Extension.{Extension}
use Rattle.hs_texts.specs.declared.refusal.Refusal.{Refusal}
use Rattle.hs_texts.specs.declared.refusal.Refusal.TheVariants.{Memory as NoMemoryLeft}
use Rattle.hs_texts.specs.Pieces.{Placed, IsTextOf}
use Rattle.hs_texts.specs.MissionMeaning.{Means}
use Rattle.hs_texts.specs.MissionSpelling.{Spells, SpellsFront, IsFrontRefusal, IsMissionRefusal}
use Rattle.hs_texts.specs.RefusalText.{refusal_line}
use Rattle.hs_texts.specs.PlanSpelling.{PlanSpells, IsPlanRefusal}
use Rattle.commands.specs.declared.status.Status.{Status}
use Rattle.commands.specs.declared.status.Status.TheVariants.{Refused}

-- an accepted mission stands in front, in so many pieces
pub record IsInFront (bytes : List ℕ) (m : Mission) (used : ℕ) : Type 0 where
  pub ast : Ast
  pub spells : SpellsFront bytes ast used
  pub means : Means ast m

-- the bytes spell an accepted mission, and nothing else
pub record IsWhole (bytes : List ℕ) (m : Mission) : Type 0 where
  pub ast : Ast
  pub spells : Spells bytes ast
  pub means : Means ast m

-- why none does
abbrev pub IsFrontRefusalOf : List ℕ → Refusal → Type 0
IsFrontRefusalOf bytes r = IsFrontRefusal bytes r ⊎ ((a : Ast) × (n : ℕ) × SpellsFront bytes a n × IsMissionRefusal a r)

-- the text has no further piece
pub record EndsAt (bytes : List ℕ) (used : ℕ) : Type 0 where
  pub pieces : List Placed
  pub text : IsTextOf bytes pieces
  pub all : length pieces ≡ used

-- an accepted mission, and then a plan for it
pub record IsGiven (bytes : List ℕ) (m : Mission) (es : List Extension) : Type 0 where
  pub used : ℕ
  pub mission : IsInFront bytes m used
  pub plan : PlanSpells m bytes used es

-- why no plan for it stands behind an accepted mission
pub record IsBehindRefusal (bytes : List ℕ) (r : Refusal) : Type 0 where
  pub mission : Mission
  pub used : ℕ
  pub front : IsInFront bytes mission used
  pub plan : IsPlanRefusal mission bytes used r

-- why the bytes are no mission with a plan
abbrev pub IsGivenRefusal : List ℕ → Refusal → Type 0
IsGivenRefusal bytes r = IsFrontRefusalOf bytes r ⊎ IsBehindRefusal bytes r

-- a refusal that is due, and its line
pub record IsRefused (Why : Refusal → Type 0) (text : List ℕ) : Type 0 where
  pub refusal : Refusal
  pub why : Why refusal
  pub line : text ≡ refusal_line refusal

-- the refusal is told by its line; want of memory has none
pub record IsTold (r : Refusal) (status : Status) (text : List ℕ) : Type 0 where
  pub refused : status ≡ Refused
  pub line : text ≡ refusal_line r
  pub some : r ≢ NoMemoryLeft
