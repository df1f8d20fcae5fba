-- Legal timelines: what a plan has to be in time, with no word of points, supports or extensions.
use Rattle.std.specs.Prelude.{◌≡◌, ◌⊎◌, ℕ, suc, ◌-◌, true, ℤ, pos, ◌-ℤ◌, ◌≤ℤ◌, ◌<ℤ◌, List, [], ◌∷◌, length, map, take, slice_get, Some, Contains, ⊤}
use Rattle.std.specs.List.{AllByRecursion}
use Rattle.hs_base.specs.Types.{LAST, Relation, Before, After, MeetsStart, MetBy, Starts, Ends, Equals, Encloses, ContainedBy, Kind, Choice, Need, Goal, Horizon, Mission, Value, Var, Extension}
use Rattle.hs_base.specs.Schedule.{Schedule, numbers_from}
use Rattle.hs_base.specs.Ranges.{InRange}
use Rattle.hs_base.specs.Points.{ending, place_of, points_of, start_at, timeline_of, tokens_of}
use Rattle.hs_base.specs.Needs.{is_deferrable}

-- a token in time
pub record Token : Type 0 where
  pub value : ℕ
  pub from : ℤ
  pub to : ℤ

-- a value of the variable may follow another one
abbrev pub MayFollow : Var → ℕ → ℕ → Type 0
MayFollow var before value = (v : Value) × (slice_get var.values before ≡ Some v) × Contains v.next (record { 0 = value })

-- each token begins where the one before ends, with a value that may follow it
abbrev pub Continues : Var → ℕ → ℤ → List Token → Type 0
Continues var before at [] = ⊤
Continues var before at (t ∷ ts) = (t.from ≡ at) × MayFollow var before t.value × Continues var t.value t.to ts

-- the first token begins at 0 with the begin value, and the others continue it
abbrev pub IsTimeline : Var → List Token → Type 0
IsTimeline var [] = ⊥
IsTimeline var (t ∷ ts) = (t.value ≡ var.begin.0) × (t.from ≡ pos 0) × Continues var t.value t.to ts

-- the token lasts as long as its value may, and ends at LAST or before
abbrev pub LastsRightly : Var → Token → Type 0
LastsRightly var t = ((v : Value) × (slice_get var.values t.value ≡ Some v) × InRange v.lasts (t.to -ℤ t.from)) × (t.to ≤ℤ LAST)

-- every token begins before the tick, and the last one ends after it
abbrev pub Spans : ℤ → List Token → Type 0
Spans tick ts = AllByRecursion (λ t. t.from <ℤ tick) ts × ((i : ℕ) (last : Token) → slice_get ts i ≡ Some last → suc i ≡ length ts → tick <ℤ last.to)

-- the table of relations, for the token x with the need and the token y that serves it
abbrev pub Relates : Relation → Token → Token → Type 0
Relates (Before r) x y = InRange r (y.from -ℤ x.to)
Relates (After r) x y = InRange r (x.from -ℤ y.to)
Relates MeetsStart x y = y.from ≡ x.to
Relates MetBy x y = x.from ≡ y.to
Relates (Starts r) x y = InRange r (y.from -ℤ x.from)
Relates (Ends r) x y = InRange r (y.to -ℤ x.to)
Relates Equals x y = (y.from ≡ x.from) × (y.to ≡ x.to)
Relates (Encloses a b) x y = InRange a (y.from -ℤ x.from) × InRange b (x.to -ℤ y.to)
Relates (ContainedBy a b) x y = InRange a (x.from -ℤ y.from) × InRange b (y.to -ℤ x.to)

-- token t of the kind stands at place i of its timeline
abbrev pub StandsAt : List (List Token) → Kind → ℕ → Token → Type 0
StandsAt ts k i t = (line : List Token) × (slice_get ts k.sv.0 ≡ Some line) × (slice_get line i ≡ Some t) × (t.value ≡ k.value.0)

-- place i is the last one of the kind's timeline
abbrev pub IsLastPlace : List (List Token) → Kind → ℕ → Type 0
IsLastPlace ts k i = (line : List Token) × (slice_get ts k.sv.0 ≡ Some line) × (suc i ≡ length line)

-- some token of the goal's kind has both its ends in the goal's ranges
abbrev pub MeetsGoal : List (List Token) → Goal → Type 0
MeetsGoal ts g = (i : ℕ) × (t : Token) × StandsAt ts g.kind i t × InRange g.start t.from × InRange g.stop t.to

-- some token serves the need of token x by one of its choices
abbrev pub MeetsNeed : List (List Token) → Need → Token → Type 0
MeetsNeed ts n x = (c : Choice) × (j : ℕ) × (y : Token) × Contains n.either c × StandsAt ts c.by j y × Relates c.relation x y

-- the timelines are what a mission asks for up to horizon k, counted from 1
pub record Legal (m : Mission) (k : ℕ) (ts : List (List Token)) : Type 0 where
  pub one_each : length ts ≡ length m.vars
  pub linked : (v : ℕ) (var : Var) (line : List Token) → slice_get m.vars v ≡ Some var → slice_get ts v ≡ Some line → IsTimeline var line
  pub lasting : (v : ℕ) (var : Var) (line : List Token) → slice_get m.vars v ≡ Some var → slice_get ts v ≡ Some line → AllByRecursion (LastsRightly var) line
  pub spanning : (h : Horizon) → slice_get m.horizons (k - 1) ≡ Some h → AllByRecursion (Spans h.tick) ts
  pub goals : AllByRecursion (λ (h : Horizon). AllByRecursion (MeetsGoal ts) h.goals) (take k m.horizons)
  pub needs : (n : Need) (i : ℕ) (x : Token) → Contains m.needs n → StandsAt ts n.of i x → MeetsNeed ts n x ⊎ ((is_deferrable n ≡ true) × IsLastPlace ts n.of i)

-- the tokens of one timeline from place i on, each from the time of its start to that of its end
abbrev pub tokens_in : List Extension → Schedule → ℕ → ℕ → List Kind → List Token
tokens_in es s v i [] = []
tokens_in es s v i (k ∷ ks) = record { value = k.value.0; from = s (start_at es v i); to = s (place_of (ending v i) (points_of es)) } ∷ tokens_in es s v (suc i) ks

-- the timelines that a schedule makes of a plan
abbrev pub timelines : Mission → List Extension → Schedule → List (List Token)
timelines m es s = map (λ v. tokens_in es s v 0 (timeline_of (tokens_of es) v)) (numbers_from 0 (length m.vars))
