-- What holds of every accepted mission.
use Rattle.std.specs.Prelude.{◌≡◌, ◌≢◌, ℕ, ◌<◌, ◌≤◌, Bool, true, false, pos, ◌<ℤ◌, List, [], ◌∷◌, length, map, slice_get, Some, codes, ⊤}
use Rattle.std.specs.List.{AllByRecursion}
use Rattle.hs_base.specs.Types.{VARIABLES, VALUES, NEEDS, CHOICES, HORIZONS, LAST_HORIZON, GOALS, SCRIPT_STEPS, ANSWER_CLAUSES, ANSWERS, Relation, Before, After, MeetsStart, MetBy, Starts, Ends, Equals, Encloses, ContainedBy, Kind, Step, Do, Until, Said, Value, Var, Choice, Need, Goal, Horizon, Mission}
use Rattle.hs_base.specs.Walks.{IsInOrder, AreDifferent}
use Rattle.hs_base.specs.Names.{IsName}
use Rattle.hs_base.specs.Ranges.{range, whole, InRange, IsRange}

-- the kind is a value of one of the variables
abbrev pub IsKindOf : List Var → Kind → Type 0
IsKindOf vars k = (var : Var) × (slice_get vars k.sv.0 ≡ Some var) × (k.value.0 < length var.values)

-- the ranges of a relation are ranges of times
abbrev pub HasRanges : Relation → Type 0
HasRanges (Before r) = IsRange (pos 0) r
HasRanges (After r) = IsRange (pos 0) r
HasRanges MeetsStart = ⊤
HasRanges MetBy = ⊤
HasRanges (Starts r) = IsRange (pos 0) r
HasRanges (Ends r) = IsRange (pos 0) r
HasRanges Equals = ⊤
HasRanges (Encloses a b) = IsRange (pos 0) a × IsRange (pos 0) b
HasRanges (ContainedBy a b) = IsRange (pos 0) a × IsRange (pos 0) b

-- the step's word is one of so many, and its amount is in 0 to LAST
abbrev pub IsStep : ℕ → Step → Type 0
IsStep words (Do w amount) = (w.0 < words) × InRange whole amount
IsStep words (Until w) = w.0 < words

-- the same of an answer and its delay
abbrev pub IsSaid : ℕ → Said → Type 0
IsSaid words s = (s.word.0 < words) × InRange whole s.delay

-- the last step of a script awaits a word
abbrev pub ends_waiting : List Step → Bool
ends_waiting [] = false
ends_waiting (Do w amount ∷ []) = false
ends_waiting (Until w ∷ []) = true
ends_waiting (s ∷ t ∷ steps) = ends_waiting (t ∷ steps)

-- a value of a variable that has so many, in a mission of so many words
pub record IsValue (words values : ℕ) (v : Value) : Type 0 where
  pub name : IsName v.name
  pub lasts : IsRange (pos 1) v.lasts
  pub next : AllByRecursion (λ i. i.0 < values) v.next
  pub next_differ : AreDifferent v.next
  pub few_steps : length v.script ≤ SCRIPT_STEPS
  pub steps : AllByRecursion (IsStep words) v.script
  pub waits : v.by_device ≡ true → ends_waiting v.script ≡ true
  pub few_clauses : length v.answers ≤ ANSWER_CLAUSES
  pub few_answers : AllByRecursion (λ said. length said ≤ ANSWERS) v.answers
  pub answers : AllByRecursion (λ said. AllByRecursion (IsSaid words) said) v.answers
  pub no_script : v.by_device ≡ false → v.script ≡ []
  pub no_answers : v.by_device ≡ false → v.answers ≡ []

pub record IsVar (words : ℕ) (var : Var) : Type 0 where
  pub name : IsName var.name
  pub some_values : 0 < length var.values
  pub few_values : length var.values ≤ VALUES
  pub values_differ : AreDifferent (map (λ (v : Value). v.name) var.values)
  pub values : AllByRecursion (IsValue words (length var.values)) var.values
  pub begin : var.begin.0 < length var.values

-- a choice of a need of tokens of that kind
pub record IsChoice (vars : List Var) (of : Kind) (c : Choice) : Type 0 where
  pub kind : IsKindOf vars c.by
  pub other_variable : c.by.sv.0 ≢ of.sv.0
  pub ranges : HasRanges c.relation

pub record IsNeed (vars : List Var) (n : Need) : Type 0 where
  pub kind : IsKindOf vars n.of
  pub some_choices : 0 < length n.either
  pub few_choices : length n.either ≤ CHOICES
  pub choices : AllByRecursion (IsChoice vars n.of) n.either
  pub kinds_differ : AreDifferent (map (λ (c : Choice). c.by) n.either)

pub record IsGoal (vars : List Var) (g : Goal) : Type 0 where
  pub kind : IsKindOf vars g.kind
  pub start : IsRange (pos 0) g.start
  pub stop : IsRange (pos 0) g.stop

pub record IsHorizon (vars : List Var) (h : Horizon) : Type 0 where
  pub tick : InRange (range (pos 1) LAST_HORIZON) h.tick
  pub few_goals : length h.goals ≤ GOALS
  pub goals : AllByRecursion (IsGoal vars) h.goals

-- no rule and no limit is broken, and each number is in range
pub record IsMission (m : Mission) : Type 0 where
  pub some_vars : 0 < length m.vars
  pub few_vars : length m.vars ≤ VARIABLES
  pub vars_differ : AreDifferent (map (λ (v : Var). v.name) m.vars)
  pub vars : AllByRecursion (IsVar (length m.words)) m.vars
  pub few_needs : length m.needs ≤ NEEDS
  pub needs : AllByRecursion (IsNeed m.vars) m.needs
  pub some_horizons : 0 < length m.horizons
  pub few_horizons : length m.horizons ≤ HORIZONS
  pub horizons : AllByRecursion (IsHorizon m.vars) m.horizons
  pub rising : IsInOrder (λ (a b : Horizon). a.tick <ℤ b.tick) m.horizons
  pub done_first : slice_get m.words 0 ≡ Some (codes "done")
  pub words : AllByRecursion IsName m.words
  pub words_differ : AreDifferent m.words
