-- What some text of version 1 or 2 can spell.
use Rattle.std.specs.Prelude.{◌≡◌, ◌⊎◌, ℕ, ◌<◌, Bool, true, false, List, [], ◌∷◌, length, Option, Some, None, ⊤}
use Rattle.std.specs.List.{AllByRecursion}
use Rattle.hs_base.specs.declared.range.Range.{Range}
use Rattle.hs_base.specs.declared.relation.Relation.{Relation}
use Rattle.hs_base.specs.declared.relation.Relation.TheVariants.{Before, After as AfterEnd, Meets as MeetsStart, MetBy, Starts, Ends, Equals, Contains as Encloses, ContainedBy}
use Rattle.hs_texts.specs.declared.ast.Ast.{Ast}
use Rattle.hs_texts.specs.declared.ast.AstChoice.{AstChoice}
use Rattle.hs_texts.specs.declared.ast.AstGoal.{AstGoal}
use Rattle.hs_texts.specs.declared.ast.AstHorizon.{AstHorizon}
use Rattle.hs_texts.specs.declared.ast.AstKind.{AstKind}
use Rattle.hs_texts.specs.declared.ast.AstNeed.{AstNeed}
use Rattle.hs_texts.specs.declared.ast.AstSaid.{AstSaid}
use Rattle.hs_texts.specs.declared.ast.AstStep.{AstStep}
use Rattle.hs_texts.specs.declared.ast.AstStep.TheVariants.{Do as AstDo, Until as AstUntil}
use Rattle.hs_texts.specs.declared.ast.AstValue.{AstValue}
use Rattle.hs_texts.specs.declared.ast.AstVar.{AstVar}
use Rattle.hs_texts.specs.declared.ast.Use.{Use}
use Rattle.hs_base.specs.Names.{IsName}
use Rattle.hs_base.specs.Ranges.{whole, InRange}

-- both limits are times, in any order
pub record AreLimits (r : Range) : Type 0 where
  pub low : InRange whole r.low
  pub high : InRange whole r.high

-- a value by its name, without arguments
pub record IsBareUse (u : Use) : Type 0 where
  pub name : IsName u.name
  pub bare : u.args ≡ []

pub record IsBareKind (k : AstKind) : Type 0 where
  pub sv : IsName k.sv
  pub value : IsBareUse k.value

-- a step's word is a name, and its amount a time
abbrev pub IsWritableStep : AstStep → Type 0
IsWritableStep (AstDo ordered amount) = IsName ordered × InRange whole amount
IsWritableStep (AstUntil awaited) = IsName awaited

-- the last step awaits a word
abbrev pub ends_awaiting : List AstStep → Bool
ends_awaiting [] = false
ends_awaiting (AstDo ordered amount ∷ []) = false
ends_awaiting (AstUntil awaited ∷ []) = true
ends_awaiting (s ∷ t ∷ steps) = ends_awaiting (t ∷ steps)

pub record IsWritableSaid (s : AstSaid) : Type 0 where
  pub delay : InRange whole s.delay
  pub named : IsName s.word

-- the words of one `answers` clause
pub record AreWritableAnswers (said : List AstSaid) : Type 0 where
  pub some : 0 < length said
  pub each : AllByRecursion IsWritableSaid said

-- one range, and no script or answers where no device ends the value
pub record IsWritableValue (v : AstValue) : Type 0 where
  pub name : IsName v.name
  pub no_params : v.params ≡ []
  pub lasts : Range
  pub only : v.lasts ≡ lasts ∷ []
  pub limits : AreLimits lasts
  pub next : AllByRecursion IsBareUse v.next
  pub steps : AllByRecursion IsWritableStep v.script
  pub waits : v.by_device ≡ true → ends_awaiting v.script ≡ true
  pub answers : AllByRecursion AreWritableAnswers v.answers
  pub no_script : v.by_device ≡ false → v.script ≡ []
  pub no_answers : v.by_device ≡ false → v.answers ≡ []

abbrev pub IsWritableBegin : Option Use → Type 0
IsWritableBegin None = ⊤
IsWritableBegin (Some u) = IsBareUse u

pub record IsWritableVar (var : AstVar) : Type 0 where
  pub name : IsName var.name
  pub some_values : 0 < length var.values
  pub values : AllByRecursion IsWritableValue var.values
  pub begin : IsWritableBegin var.begin

abbrev pub HasLimits : Relation → Type 0
HasLimits (Before r) = AreLimits r
HasLimits (AfterEnd r) = AreLimits r
HasLimits MeetsStart = ⊤
HasLimits MetBy = ⊤
HasLimits (Starts r) = AreLimits r
HasLimits (Ends r) = AreLimits r
HasLimits Equals = ⊤
HasLimits (Encloses a b) = AreLimits a × AreLimits b
HasLimits (ContainedBy a b) = AreLimits a × AreLimits b

pub record IsWritableChoice (c : AstChoice) : Type 0 where
  pub limits : HasLimits c.relation
  pub by : IsBareKind c.by

-- in version 1 a need has one choice
pub record IsWritableNeed (version : ℕ) (n : AstNeed) : Type 0 where
  pub of : IsBareKind n.of
  pub some_choices : 0 < length n.either
  pub single : version ≡ 1 → length n.either ≡ 1
  pub choices : AllByRecursion IsWritableChoice n.either

pub record IsWritableGoal (g : AstGoal) : Type 0 where
  pub kind : IsBareKind g.kind
  pub start : AreLimits g.start
  pub stop : AreLimits g.stop

pub record IsWritableHorizon (h : AstHorizon) : Type 0 where
  pub tick : InRange whole h.tick
  pub goals : AllByRecursion IsWritableGoal h.goals

-- a mission that a text can spell
pub record IsWritable (a : Ast) : Type 0 where
  pub version : (a.version ≡ 1) ⊎ (a.version ≡ 2)
  pub no_sorts : a.sorts ≡ []
  pub some_vars : 0 < length a.vars
  pub vars : AllByRecursion IsWritableVar a.vars
  pub needs : AllByRecursion (IsWritableNeed a.version) a.needs
  pub some_horizons : 0 < length a.horizons
  pub horizons : AllByRecursion IsWritableHorizon a.horizons
