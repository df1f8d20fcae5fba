-- The grammar of plans' texts, with the rules on points and numbers in it.
use Rattle.std.specs.Prelude.{ℕ, ◌+◌, ℤ, Bool, true, false, cond, not, ◌&&◌, ◌||◌, ◌-◌, nat_eq, nat_le, nat_lt, List, [], ◌∷◌, ◌++◌, length, map, filter, flat_map, Option, Some, None}
use Rattle.std.specs.List.{list_any}
use Rattle.std.specs.Str.{bytes_eq}
use Rattle.hs_base.specs.declared.mission.Mission.{Mission}
use Rattle.hs_base.specs.declared.mission.Var.{Var}
use Rattle.hs_texts.specs.Types.{WrittenPoint, Origin, Horizon, End, WrittenToken, WrittenTime, WrittenKind, WrittenSupport, WrittenBody, WrittenExtension}
use Rattle.hs_texts.specs.Pieces.{Piece, number, number_of}
use Rattle.hs_texts.specs.Languages.{Language, One, Yields, ◌>>=◌, ◌∣◌, Many, Keyword, Number, After}
use Rattle.hs_texts.specs.MissionText.{NameText}
use Rattle.hs_texts.specs.Kept.{Kept, kept, broken, onward, Series}

-- The points of a written plan.

abbrev pub is_variable : Mission → List ℕ → Bool
is_variable m sv = list_any (λ (v : Var). bytes_eq sv v.name) m.vars

-- the variables of a plan's tokens, token by token
abbrev pub token_names : List WrittenExtension → List (List ℕ)
token_names es = flat_map (λ (e : WrittenExtension). map (λ (k : WrittenKind). k.sv) e.body.tokens) es

-- whether the plan has the point; one of an unknown variable is let pass
abbrev pub has_point : Mission → List WrittenExtension → WrittenPoint → Bool
has_point m es Origin = true
has_point m es (Horizon k) = nat_le 1 k && nat_le k (length es)
has_point m es (End t) = not (is_variable m t.sv) || nat_lt t.place (length (filter (bytes_eq t.sv) (token_names es)))

-- whether it is a point of one of its extensions
abbrev pub may_be_fixed : Mission → List WrittenExtension → WrittenPoint → Bool
may_be_fixed m es Origin = false
may_be_fixed m es (Horizon k) = has_point m es (Horizon k)
may_be_fixed m es (End t) = has_point m es (End t)

-- the number of pieces of a point
abbrev pub point_size : WrittenPoint → ℕ
point_size Origin = 1
point_size (Horizon k) = 2
point_size (End t) = 2

-- The grammar.

-- names of texts without a version
abbrev pub Name : Language (List ℕ)
Name = NameText 1

-- a number that counts
abbrev pub count_says : Piece → Option ℕ
count_says (number ds) = Some (number_of ds)
count_says _ = None

abbrev pub Count : Language ℕ
Count = One count_says

-- the number n
abbrev pub Exactly : ℕ → Language (Kept (Unit {0}))
Exactly n = do
  k ← Count
  Yields (cond (nat_eq k n) (kept tt) (broken 1))

-- a number that is one more than another
abbrev pub OneMore : Language (Kept ℕ)
OneMore = do
  k ← Count
  Yields (cond (nat_eq k 0) (broken 1) (kept (k - 1)))

-- a token := name number
abbrev pub TokenText : Language WrittenToken
TokenText = do
  sv ← Name
  place ← Count
  Yields (record { sv = sv; place = place })

-- point := "Z" | "H" number | a token
abbrev pub HorizonPoint : Language WrittenPoint
HorizonPoint = do
  k ← Count
  Yields (Horizon k)

abbrev pub EndPoint : Language WrittenPoint
EndPoint = do
  token ← TokenText
  Yields (End token)

abbrev pub PointText : Language WrittenPoint
PointText = After "Z" (Yields Origin) ∣ After "H" HorizonPoint ∣ EndPoint

-- "fix" point number, where the point is one of the extensions before
abbrev pub FixedAt : WrittenPoint → Language (Kept WrittenTime)
FixedAt point = do
  at ← Number
  Yields (kept (record { point = point; at = at }))

abbrev pub FixText : Mission → List WrittenExtension → Language (Kept WrittenTime)
FixText m es = do
  _ ← Keyword "fix"
  point ← PointText
  cond (may_be_fixed m es point) (FixedAt point) (Yields (broken (point_size point)))

-- "token" name name
abbrev pub NewTokenText : Language WrittenKind
NewTokenText = do
  _ ← Keyword "token"
  sv ← Name
  value ← Name
  Yields (record { sv = sv; value = value })

-- "support" name number number name number
abbrev pub SupportText : Language WrittenSupport
SupportText = do
  _ ← Keyword "support"
  token ← TokenText
  need ← Count
  by ← TokenText
  Yields (record { token = token; need = need; by = by })

-- "goal" number name number, where the number is that of the goal
abbrev pub GoalToken : Unit {0} → Language (Kept WrittenToken)
GoalToken _ = do
  token ← TokenText
  Yields (kept token)

abbrev pub GoalText : ℕ → Language (Kept WrittenToken)
GoalText n = do
  _ ← Keyword "goal"
  counted ← Exactly n
  onward GoalToken counted

-- the goals, numbered in turn, and "close"
abbrev pub BodyEnd : ℤ → List WrittenTime → List WrittenKind → List WrittenSupport → List WrittenToken → Language (Kept WrittenBody)
BodyEnd since fixed tokens supports goals = do
  _ ← Keyword "close"
  Yields (kept (record { since = since; fixed = fixed; tokens = tokens; supports = supports; goals = goals }))

abbrev pub BodyBack : ℤ → List WrittenTime → Language (Kept WrittenBody)
BodyBack since fixed = do
  tokens ← Many NewTokenText
  supports ← Many SupportText
  goals ← Series GoalText (λ n goal. n + 1) 0
  onward (BodyEnd since fixed tokens supports) goals

-- body := "since" number fix* token* support* goal* "close"
abbrev pub BodyText : Mission → List WrittenExtension → Language (Kept WrittenBody)
BodyText m es = do
  _ ← Keyword "since"
  since ← Number
  fixed ← Series (FixText m) (λ before time. before) es
  onward (BodyBack since) fixed

-- an extension := "extension" number body, where the number is one more than its base
abbrev pub Extended : ℕ → WrittenBody → Language (Kept WrittenExtension)
Extended base body = Yields (kept (record { base = base; body = body }))

abbrev pub ExtensionBack : Mission → List WrittenExtension → ℕ → Language (Kept WrittenExtension)
ExtensionBack m es base = do
  body ← BodyText m es
  onward (Extended base) body

abbrev pub ExtensionText : Mission → List WrittenExtension → Language (Kept WrittenExtension)
ExtensionText m es = do
  _ ← Keyword "extension"
  base ← OneMore
  onward (ExtensionBack m es) base

-- plan := "hsts" "plan" 1 extension* "end"
abbrev pub PlanEnd : List WrittenExtension → Language (Kept (List WrittenExtension))
PlanEnd es = do
  _ ← Keyword "end"
  Yields (kept es)

abbrev pub PlanBack : Mission → Unit {0} → Language (Kept (List WrittenExtension))
PlanBack m _ = do
  extensions ← Series (ExtensionText m) (λ before e. before ++ e ∷ []) []
  onward PlanEnd extensions

abbrev pub PlanGrammar : Mission → Language (Kept (List WrittenExtension))
PlanGrammar m = do
  _ ← Keyword "hsts"
  _ ← Keyword "plan"
  version ← Exactly 1
  onward (PlanBack m) version
