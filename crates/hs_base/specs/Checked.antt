-- Checked plans: the rules that each extension keeps with those before it, and a schedule.
use Rattle.std.specs.Prelude.{◌≡◌, ◌⊎◌, ℕ, suc, ◌+◌, ◌-◌, ◌<◌, ◌≤◌, Bool, true, false, pos, List, [], ◌∷◌, ◌++◌, length, flat_map, slice_get, Option, Some, None, Contains, ⊤}
use Rattle.std.specs.List.{AllByRecursion, before_first}
use Rattle.hs_base.specs.Types.{NEW_TOKENS, FREE_POINTS, Kind, TokenRef, Choice, Need, Goal, Support, Time, Var, Extension, Mission}
use Rattle.hs_base.specs.Walks.{EachAfter}
use Rattle.hs_base.specs.Schedule.{Schedule}
use Rattle.hs_base.specs.Ranges.{range, whole, InRange}
use Rattle.hs_base.specs.Points.{count, tokens_of, timeline_of, token_at}
use Rattle.hs_base.specs.Needs.{need_at, choice_by, is_deferrable}
use Rattle.hs_base.specs.Bounds.{is_fixed, goals_of, IsScheduleOf}
use Rattle.hs_base.specs.Timelines.{MayFollow}
use Rattle.hs_base.specs.Missions.{IsMission}

-- the plan with one more extension
abbrev pub joined : List Extension → Extension → List Extension
joined es e = es ++ e ∷ []

abbrev pub fixed_of : List Extension → List Time
fixed_of es = flat_map (λ e. e.fixed) es

abbrev pub supports_of : List Extension → List Support
supports_of es = flat_map (λ e. e.supports) es

-- the points whose times no extension fixes: Z, a horizon point for each extension, and the ends of tokens
abbrev pub free_points : List Extension → ℕ
free_points es = (1 + length es + length (tokens_of es)) - length (fixed_of es)

-- the extension is for the plan's next horizon
pub record KeepsBase (m : Mission) (es : List Extension) (e : Extension) : Type 0 where
  pub base : e.base ≡ length es
  pub horizon_left : length es < length m.horizons

pub record KeepsLimits (es : List Extension) (e : Extension) : Type 0 where
  pub tokens : length e.tokens ≤ NEW_TOKENS
  pub points : free_points (joined es e) ≤ FREE_POINTS

-- a value may stand behind these tokens of its timeline: first the begin value, then one that may follow the last
abbrev pub MayStandBehind : Var → List Kind → ℕ → Type 0
MayStandBehind var [] value = value ≡ var.begin.0
MayStandBehind var (k ∷ []) value = MayFollow var k.value.0 value
MayStandBehind var (k ∷ l ∷ ks) value = MayStandBehind var (l ∷ ks) value

-- the tokens have one of that variable
abbrev pub HasTokenOf : List Kind → ℕ → Type 0
HasTokenOf tokens v = 0 < length (timeline_of tokens v)

-- a new token behind those of the plan and those that are new before it
pub record KeepsOrderAt (m : Mission) (es : List Extension) (new : List Kind) (k : Kind) : Type 0 where
  pub grouped : AllByRecursion (λ b. b.sv.0 ≤ k.sv.0) new
  pub firsts : (v : ℕ) → v < k.sv.0 → HasTokenOf (tokens_of es ++ new) v
  pub var : Var
  pub is_var : slice_get m.vars k.sv.0 ≡ Some var
  pub linked : MayStandBehind var (timeline_of (tokens_of es ++ new) k.sv.0) k.value.0

-- tokens are grouped by rising variable, each timeline has a first one, and values may follow each other
pub record KeepsOrder (m : Mission) (es : List Extension) (e : Extension) : Type 0 where
  pub each : EachAfter (KeepsOrderAt m es) [] e.tokens
  pub all : (v : ℕ) → v < length m.vars → HasTokenOf (tokens_of (joined es e)) v

-- an entry of `fixed` after those before it
pub record KeepsFixedAt (es : List Extension) (e : Extension) (before : List Time) (t : Time) : Type 0 where
  pub not_origin : 0 < t.point.0
  pub below : t.point.0 < count es
  pub new : is_fixed es t.point.0 ≡ false
  pub rising : AllByRecursion (λ (b : Time). b.point.0 < t.point.0) before
  pub at : InRange (range (pos 0) e.since) t.at

-- points of the plan are fixed in order, each once, at times up to `since`
pub record KeepsFixed (es : List Extension) (e : Extension) : Type 0 where
  pub each : EachAfter (KeepsFixedAt es e) [] e.fixed
  pub since : InRange whole e.since

-- the support names a token, a need of it, and a token of one of that need's choices
pub record IsServing (m : Mission) (es : List Extension) (s : Support) : Type 0 where
  pub need : Need
  pub has_need : need_at m es s.token s.need ≡ Some need
  pub kind : Kind
  pub has_token : token_at es s.by ≡ Some kind
  pub choice : Choice
  pub serves : choice_by need kind ≡ Some choice

-- the two supports are for one need of one token
abbrev pub IsSameNeed : Support → Support → Type 0
IsSameNeed s r = (s.token ≡ r.token) × (s.need ≡ r.need)

-- need i of token t comes before need j of token u: by variable, place and number
abbrev pub IsNeedBefore : TokenRef → ℕ → TokenRef → ℕ → Type 0
IsNeedBefore t i u j = (t.sv.0 < u.sv.0) ⊎ ((t.sv.0 ≡ u.sv.0) × ((t.place < u.place) ⊎ ((t.place ≡ u.place) × (i < j))))

-- a support after those before it
pub record KeepsSupportAt (m : Mission) (es : List Extension) (e : Extension) (before : List Support) (s : Support) : Type 0 where
  pub serving : IsServing m (joined es e) s
  pub new : AllByRecursion (λ (r : Support). IsSameNeed r s → ⊥) (supports_of es)
  pub rising : AllByRecursion (λ (r : Support). IsNeedBefore r.token r.need s.token s.need) before

abbrev pub KeepsSupports : Mission → List Extension → Extension → Type 0
KeepsSupports m es e = EachAfter (KeepsSupportAt m es e) [] e.supports

-- the token is the last of its timeline
abbrev pub IsLastToken : List Extension → TokenRef → Type 0
IsLastToken es t = suc t.place ≡ length (timeline_of (tokens_of es) t.sv.0)

-- need i of the token, which is n, has a support or may wait
abbrev pub IsServed : Mission → List Extension → TokenRef → ℕ → Need → Type 0
IsServed m es t i n = ((s : Support) × Contains (supports_of es) s × (s.token ≡ t) × (s.need ≡ i)) ⊎ ((is_deferrable n ≡ true) × IsLastToken es t)

-- every need of every token is served
pub record KeepsNeeds (m : Mission) (es : List Extension) : Type 0 where
  pub each : (t : TokenRef) (i : ℕ) (n : Need) → need_at m es t i ≡ Some n → IsServed m es t i n

-- a goal and its entry: both or none, and the entry is a token of the goal's kind
abbrev pub IsEntryOf : List Extension → Option Goal → Option TokenRef → Type 0
IsEntryOf es None None = ⊤
IsEntryOf es (Some g) (Some t) = token_at es t ≡ Some g.kind
IsEntryOf es _ _ = ⊥

abbrev pub KeepsGoalAt : Mission → List Extension → Extension → ℕ → Type 0
KeepsGoalAt m es e i = IsEntryOf (joined es e) (slice_get (goals_of m (length es + 1)) i) (slice_get e.goals i)

-- every goal of the horizon has its entry
pub record KeepsGoals (m : Mission) (es : List Extension) (e : Extension) : Type 0 where
  pub each : (i : ℕ) → KeepsGoalAt m es e i

-- the rules of an extension; the last one is that there is a schedule
pub data Rule : Type 0 where
  base : Rule
  limits : Rule
  order : Rule
  fixed : Rule
  supports : Rule
  needs : Rule
  goals : Rule
  schedule : Rule

-- the order in which they are looked at
abbrev pub in_order : List Rule
in_order = base ∷ limits ∷ order ∷ fixed ∷ supports ∷ needs ∷ goals ∷ schedule ∷ []

abbrev pub same_rule : Rule → Rule → Bool
same_rule base base = true
same_rule limits limits = true
same_rule order order = true
same_rule fixed fixed = true
same_rule supports supports = true
same_rule needs needs = true
same_rule goals goals = true
same_rule schedule schedule = true
same_rule _ _ = false

-- the rules that are looked at before this one
abbrev pub before : Rule → List Rule
before r = before_first (same_rule r) in_order

-- the extension keeps the rule with the plan before it
abbrev pub Keeps : Mission → List Extension → Extension → Rule → Type 0
Keeps m es e base = KeepsBase m es e
Keeps m es e limits = KeepsLimits es e
Keeps m es e order = KeepsOrder m es e
Keeps m es e fixed = KeepsFixed es e
Keeps m es e supports = KeepsSupports m es e
Keeps m es e needs = KeepsNeeds m (joined es e)
Keeps m es e goals = KeepsGoals m es e
Keeps m es e schedule = (s : Schedule) × IsScheduleOf m (joined es e) s

-- and each rule before this one
abbrev pub KeepsBefore : Mission → List Extension → Extension → Rule → Type 0
KeepsBefore m es e r = AllByRecursion (Keeps m es e) (before r)

-- all rules but the schedule, which the checked plan has as a whole
pub record KeepsRules (m : Mission) (es : List Extension) (e : Extension) : Type 0 where
  pub each : KeepsBefore m es e schedule

pub record Checked (m : Mission) (es : List Extension) : Type 0 where
  pub mission : IsMission m
  pub schedule : Schedule
  pub meets : IsScheduleOf m es schedule
  pub rules : EachAfter (KeepsRules m) [] es
