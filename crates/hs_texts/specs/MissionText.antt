-- The mission text, one definition a nonterminal; v is the version, the number behind `hsts`.
use Rattle.std.specs.Prelude.{ℕ, cond, ◌||◌, nat_eq, ℤ, List, [], ◌∷◌, ◌++◌, true, false, Option, Some, None, codes, flat_map}
use Rattle.hs_base.specs.declared.limits.TheConstants.{LAST}
use Rattle.hs_base.specs.declared.range.Range.{Range}
use Rattle.hs_base.specs.declared.relation.Relation.{Relation}
use Rattle.hs_base.specs.declared.relation.Relation.TheVariants.{Before, After as AfterEnd, Meets as MeetsStart, MetBy, Starts, Ends, Equals, Contains as Encloses, ContainedBy}
use Rattle.hs_texts.specs.Types.{Ast, AstChoice, AstDo, AstGoal, AstHorizon, AstKind, AstNeed, AstSaid, AstStep, AstUntil, AstValue, AstVar, Use}
use Rattle.hs_base.specs.Names.{is_name}
use Rattle.hs_base.specs.Ranges.{range, whole}
use Rattle.hs_texts.specs.Pieces.{Piece, word, number, number_of}
use Rattle.hs_texts.specs.Languages.{Language, One, Yields, ◌>>=◌, ◌∣◌, Maybe, Many, Several, Keyword, Sign, Number, After, Apart}

-- 1 | 2
abbrev pub version_says : Piece → Option ℕ
version_says (number ds) = cond (nat_eq (number_of ds) 1 || nat_eq (number_of ds) 2) (Some (number_of ds)) None
version_says _ = None

abbrev pub VersionText : Language ℕ
VersionText = One version_says

-- a word that is a name
abbrev pub name_says : ℕ → Piece → Option (List ℕ)
name_says v (word w) = cond (is_name w) (Some w) None
name_says v _ = None

abbrev pub NameText : ℕ → Language (List ℕ)
NameText v = One (name_says v)

-- limit := "inf" | number
abbrev pub LimitText : Language ℤ
LimitText = After "inf" (Yields LAST) ∣ Number

-- range := "[" limit "," limit "]"
abbrev pub RangeText : Language Range
RangeText = do
  _ ← Sign "["
  low ← LimitText
  _ ← Sign ","
  high ← LimitText
  _ ← Sign "]"
  Yields (range low high)

-- use := name
abbrev pub UseText : ℕ → Language Use
UseText v = do
  name ← NameText v
  Yields (record { name = name; args = [] })

-- kind := name "." use
abbrev pub KindText : ℕ → Language AstKind
KindText v = do
  sv ← NameText v
  _ ← Sign "."
  value ← UseText v
  Yields (record { sv = sv; value = value })

-- next := [ "then" use ( "," use )* ]
abbrev pub NextText : ℕ → Language (List Use)
NextText v = Maybe (After "then" (Apart "," (UseText v))) []

-- part := ( "do" name number ";" )* "until" name
abbrev pub DoText : ℕ → Language AstStep
DoText v = do
  _ ← Keyword "do"
  ordered ← NameText v
  amount ← Number
  _ ← Sign ";"
  Yields (AstDo ordered amount)

abbrev pub UntilText : ℕ → Language AstStep
UntilText v = do
  _ ← Keyword "until"
  awaited ← NameText v
  Yields (AstUntil awaited)

abbrev pub PartText : ℕ → Language (List AstStep)
PartText v = do
  orders ← Many (DoText v)
  last ← UntilText v
  Yields (orders ++ last ∷ [])

-- script := [ "script" part ( ";" part )* ]; a missing one is `until done`
abbrev pub until_done : List AstStep
until_done = AstUntil (codes "done") ∷ []

abbrev pub PartsText : ℕ → Language (List AstStep)
PartsText v = do
  parts ← Apart ";" (PartText v)
  Yields (flat_map (λ steps. steps) parts)

abbrev pub ScriptText : ℕ → Language (List AstStep)
ScriptText v = Maybe (After "script" (PartsText v)) until_done

-- answers := "answers" number name ( "," number name )*
abbrev pub SaidText : ℕ → Language AstSaid
SaidText v = do
  delay ← Number
  said ← NameText v
  Yields (record { delay = delay; word = said })

abbrev pub AnswersText : ℕ → Language (List AstSaid)
AnswersText v = After "answers" (Apart "," (SaidText v))

-- plain := next
abbrev pub PlainText : ℕ → List ℕ → Range → Language AstValue
PlainText v name lasts = do
  next ← NextText v
  Yields (record { name = name; params = []; lasts = lasts ∷ []; by_device = false; next = next; script = []; answers = [] })

-- device := "by" "device" next script answers*
abbrev pub DeviceText : ℕ → List ℕ → Range → Language AstValue
DeviceText v name lasts = do
  _ ← Keyword "by"
  _ ← Keyword "device"
  next ← NextText v
  script ← ScriptText v
  answers ← Many (AnswersText v)
  Yields (record { name = name; params = []; lasts = lasts ∷ []; by_device = true; next = next; script = script; answers = answers })

-- value := "value" name range ( device | plain )
abbrev pub ValueText : ℕ → Language AstValue
ValueText v = do
  _ ← Keyword "value"
  name ← NameText v
  lasts ← RangeText
  DeviceText v name lasts ∣ PlainText v name lasts

-- begin := [ "begin" use ]
abbrev pub SomeUseText : ℕ → Language (Option Use)
SomeUseText v = do
  value ← UseText v
  Yields (Some value)

abbrev pub BeginText : ℕ → Language (Option Use)
BeginText v = Maybe (After "begin" (SomeUseText v)) None

-- var := "var" name value+ begin
abbrev pub VarText : ℕ → Language AstVar
VarText v = do
  _ ← Keyword "var"
  name ← NameText v
  values ← Several (ValueText v)
  begin ← BeginText v
  Yields (record { name = name; values = values; begin = begin })

-- relation := "before" range | "after" range | "meets" | "met_by" | "starts" range | "ends" range
--           | "equals" | "contains" range range | "contained_by" range range
abbrev pub OneRange : (Range → Relation) → Language Relation
OneRange related = do
  within ← RangeText
  Yields (related within)

abbrev pub TwoRanges : (Range → Range → Relation) → Language Relation
TwoRanges related = do
  start ← RangeText
  stop ← RangeText
  Yields (related start stop)

abbrev pub RelationText : Language Relation
RelationText =
    After "before" (OneRange Before) ∣ After "after" (OneRange AfterEnd) ∣ After "meets" (Yields MeetsStart)
    ∣ After "met_by" (Yields MetBy) ∣ After "starts" (OneRange Starts) ∣ After "ends" (OneRange Ends)
    ∣ After "equals" (Yields Equals) ∣ After "contains" (TwoRanges Encloses) ∣ After "contained_by" (TwoRanges ContainedBy)

-- choice := relation kind
abbrev pub ChoiceText : ℕ → Language AstChoice
ChoiceText v = do
  relation ← RelationText
  by ← KindText v
  Yields (record { relation = relation; by = by })

-- in version 1 a need has one choice
abbrev pub FurtherChoices : ℕ → Language (List AstChoice)
FurtherChoices v = cond (nat_eq v 1) (Yields []) (Many (After "or" (ChoiceText v)))

-- choices := choice ( "or" choice )*
abbrev pub ChoicesText : ℕ → Language (List AstChoice)
ChoicesText v = do
  first ← ChoiceText v
  others ← FurtherChoices v
  Yields (first ∷ others)

-- need := "need" kind choices
abbrev pub NeedText : ℕ → Language AstNeed
NeedText v = do
  _ ← Keyword "need"
  of ← KindText v
  either ← ChoicesText v
  Yields (record { of = of; either = either })

-- goal := "goal" kind [ "start" range ] [ "stop" range ]; a missing range is `[0,inf]`
abbrev pub GoalText : ℕ → Language AstGoal
GoalText v = do
  _ ← Keyword "goal"
  kind ← KindText v
  start ← Maybe (After "start" RangeText) whole
  stop ← Maybe (After "stop" RangeText) whole
  Yields (record { kind = kind; start = start; stop = stop })

-- horizon := "horizon" number goal*
abbrev pub HorizonText : ℕ → Language AstHorizon
HorizonText v = do
  _ ← Keyword "horizon"
  tick ← Number
  goals ← Many (GoalText v)
  Yields (record { tick = tick; goals = goals })

-- mission := "hsts" version var+ need* horizon+ "end"
abbrev pub ClausesText : ℕ → Language Ast
ClausesText v = do
  vars ← Several (VarText v)
  needs ← Many (NeedText v)
  horizons ← Several (HorizonText v)
  _ ← Keyword "end"
  Yields (record { version = v; sorts = []; vars = vars; needs = needs; horizons = horizons })

abbrev pub MissionText : Language Ast
MissionText = do
  _ ← Keyword "hsts"
  v ← VersionText
  ClausesText v
