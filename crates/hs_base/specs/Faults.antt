-- Which fault of an extension is the first one.
use Rattle.std.specs.Prelude.{◌≡◌, ◌⊎◌, ℕ, ◌<◌, ◌^◌, ◌-◌, min, List, [], ◌∷◌, ◌++◌, length, Some, ⊤}
use Rattle.hs_base.specs.Types.{Kind, TokenRef, Need, Extension, Mission, Fault, Base, OverLimit, Order, Fixed, WrongSupport, Unsupported, NoGoal, Cycle, NoMemoryLeft}
use Rattle.hs_base.specs.Walks.{EachAfter}
use Rattle.hs_base.specs.Ranges.{whole, InRange}
use Rattle.hs_base.specs.Cycles.{IsNegativeCycle}
use Rattle.hs_base.specs.Points.{tokens_of, timeline_of}
use Rattle.hs_base.specs.Needs.{need_at}
use Rattle.hs_base.specs.Bounds.{bounds_of}
use Rattle.hs_base.specs.Checked.{joined, free_points, HasTokenOf, KeepsBase, KeepsLimits, KeepsOrderAt, KeepsFixedAt, KeepsSupportAt, IsServed, IsNeedBefore, KeepsGoalAt, Rule, base, limits, order, fixed, supports, needs, goals, schedule, KeepsBefore}

-- x stands behind `before` in the list, where P holds of each of those, and does not hold of x
pub record IsFirstBreak {X : Type 0} (P : List X → X → Type 0) (xs before : List X) (x : X) : Type 0 where
  pub after : List X
  pub split : xs ≡ before ++ x ∷ after
  pub kept : EachAfter P [] before
  pub broken : P before x → ⊥

-- a number as the field of a fault has it
abbrev pub shown : ℕ → ℕ
shown n = min n (2 ^ 32 - 1)

-- v is the first variable of which these tokens have none
pub record IsFirstMissing (m : Mission) (tokens : List Kind) (v : ℕ) : Type 0 where
  pub below : v < length m.vars
  pub none : HasTokenOf tokens v → ⊥
  pub firsts : (w : ℕ) → w < v → HasTokenOf tokens w

-- the list of tokens ends here, or goes on with a token of a greater variable
abbrev pub IsPassed : List Kind → ℕ → Type 0
IsPassed [] v = Unit {0}
IsPassed (k ∷ ks) v = v < k.sv.0

-- a first token of variable v is missing behind the new tokens
pub record IsMissingFirst (m : Mission) (es : List Extension) (tokens : List Kind) (v : ℕ) : Type 0 where
  pub before : List Kind
  pub after : List Kind
  pub split : tokens ≡ before ++ after
  pub kept : EachAfter (KeepsOrderAt m es) [] before
  pub missing : IsFirstMissing m (tokens_of es ++ before) v
  pub passed : IsPassed after v

-- a token of variable v may not stand at this place, and no first token before it is missing
pub record IsMisplaced (m : Mission) (es : List Extension) (tokens : List Kind) (v place : ℕ) : Type 0 where
  pub before : List Kind
  pub token : Kind
  pub first : IsFirstBreak (KeepsOrderAt m es) tokens before token
  pub firsts : (w : ℕ) → w < length m.vars → w < token.sv.0 → HasTokenOf (tokens_of es ++ before) w
  pub variable : v ≡ token.sv.0
  pub is_place : place ≡ length (timeline_of (tokens_of es ++ before) v)

-- entry i of a list is the first that breaks its rule
abbrev pub IsFirstBreakAt : {X : Type 0} → (List X → X → Type 0) → List X → ℕ → Type 0
IsFirstBreakAt {X} P xs i = (before : List X) × (x : X) × IsFirstBreak P xs before x × (i ≡ length before)

-- all entries of `fixed` are right, and `since` is no time
pub record IsSinceWrong (es : List Extension) (e : Extension) (i : ℕ) : Type 0 where
  pub each : EachAfter (KeepsFixedAt es e) [] e.fixed
  pub broken : InRange whole e.since → ⊥
  pub number : i ≡ length e.fixed

-- need i of token t is there and not served
pub record IsUnserved (m : Mission) (es : List Extension) (t : TokenRef) (i : ℕ) : Type 0 where
  pub need : Need
  pub is_need : need_at m es t i ≡ Some need
  pub broken : IsServed m es t i need → ⊥

-- and no need before it is
pub record IsFirstUnserved (m : Mission) (es : List Extension) (t : TokenRef) (i : ℕ) : Type 0 where
  pub here : IsUnserved m es t i
  pub first : (u : TokenRef) (j : ℕ) → IsUnserved m es u j → IsNeedBefore u j t i → ⊥

-- goal i is the first without its entry, or there is no such goal
pub record IsFirstGoal (m : Mission) (es : List Extension) (e : Extension) (i : ℕ) : Type 0 where
  pub broken : KeepsGoalAt m es e i → ⊥
  pub first : (j : ℕ) → j < i → KeepsGoalAt m es e j

-- the rule that a fault says is broken; want of memory says it of none
abbrev pub rule_of : Fault → Rule
rule_of (Base given current) = base
rule_of (OverLimit points tokens) = limits
rule_of (Order v place) = order
rule_of (Fixed i) = fixed
rule_of (WrongSupport i) = supports
rule_of (Unsupported v place i) = needs
rule_of (NoGoal i) = goals
rule_of (Cycle bs) = schedule
rule_of NoMemoryLeft = base

-- the fault's rule is broken first at what the fault names; which negative cycle it names is free
abbrev pub Names : Mission → List Extension → Extension → Fault → Type 0
Names m es e (Base given current) = (KeepsBase m es e → ⊥) × (given ≡ e.base) × (current ≡ length es)
Names m es e (OverLimit points tokens) = (KeepsLimits es e → ⊥) × (points ≡ shown (free_points (joined es e))) × (tokens ≡ shown (length e.tokens))
Names m es e (Order v place) = IsMisplaced m es e.tokens v.0 place ⊎ (IsMissingFirst m es e.tokens v.0 × (place ≡ 0))
Names m es e (Fixed i) = IsFirstBreakAt (KeepsFixedAt es e) e.fixed i ⊎ IsSinceWrong es e i
Names m es e (WrongSupport i) = IsFirstBreakAt (KeepsSupportAt m es e) e.supports i
Names m es e (Unsupported v place i) = IsFirstUnserved m (joined es e) (record { sv = v; place = place }) i
Names m es e (NoGoal i) = IsFirstGoal m es e i
Names m es e (Cycle bs) = IsNegativeCycle (bounds_of m (joined es e)) bs
Names m es e NoMemoryLeft = ⊤

-- the fault is the first one of extension e behind the plan es: the rules before its own are kept
abbrev pub IsFault : Mission → List Extension → Extension → Fault → Type 0
IsFault m es e f = KeepsBefore m es e (rule_of f) × Names m es e f
