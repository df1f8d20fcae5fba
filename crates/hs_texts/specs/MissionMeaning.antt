-- What a written mission means: each name replaced by its number.
use Rattle.std.specs.Prelude.{◌≡◌, ℕ, ◌≤◌, cond, List, [], ◌∷◌, ◌++◌, map, flat_map, slice_get, Some, codes}
use Rattle.std.specs.List.{AllZip, list_any}
use Rattle.std.specs.Str.{bytes_eq}
use Rattle.hs_base.specs.declared.mission.Choice.{Choice}
use Rattle.hs_base.specs.declared.mission.Goal.{Goal}
use Rattle.hs_base.specs.declared.mission.Horizon.{Horizon}
use Rattle.hs_base.specs.declared.mission.Kind.{Kind}
use Rattle.hs_base.specs.declared.mission.Mission.{Mission}
use Rattle.hs_base.specs.declared.mission.Need.{Need}
use Rattle.hs_base.specs.declared.mission.Said.{Said}
use Rattle.hs_base.specs.declared.mission.Step.{Step}
use Rattle.hs_base.specs.declared.mission.Step.TheVariants.{Do, Until}
use Rattle.hs_base.specs.declared.ids.ValId.{ValId}
use Rattle.hs_base.specs.declared.mission.Value.{Value}
use Rattle.hs_base.specs.declared.mission.Var.{Var}
use Rattle.hs_texts.specs.Types.{Ast, AstChoice, AstDo, AstGoal, AstHorizon, AstKind, AstNeed, AstSaid, AstStep, AstUntil, AstValue, AstVar, Use}
use Rattle.hs_base.specs.Missions.{IsMission}

-- a name's number is the first place where it stands
pub record IsNumberOf (names : List (List ℕ)) (name : List ℕ) (i : ℕ) : Type 0 where
  pub here : slice_get names i ≡ Some name
  pub first : (j : ℕ) → slice_get names j ≡ Some name → i ≤ j

abbrev pub var_names : List AstVar → List (List ℕ)
var_names vars = map (λ (v : AstVar). v.name) vars

abbrev pub value_names : AstVar → List (List ℕ)
value_names var = map (λ (v : AstValue). v.name) var.values

-- the words of scripts and answers, in text order
abbrev pub step_word : AstStep → List ℕ
step_word (AstDo ordered amount) = ordered
step_word (AstUntil awaited) = awaited

abbrev pub words_of_value : AstValue → List (List ℕ)
words_of_value v = map step_word v.script ++ flat_map (λ (said : List AstSaid). map (λ (s : AstSaid). s.word) said) v.answers

abbrev pub words_of : Ast → List (List ℕ)
words_of a = flat_map (λ (var : AstVar). flat_map words_of_value var.values) a.vars

-- further names behind those seen, each where it is seen first
abbrev pub first_seen : List (List ℕ) → List (List ℕ) → List (List ℕ)
first_seen seen [] = seen
first_seen seen (w ∷ ws) = first_seen (cond (list_any (bytes_eq w) seen) seen (seen ++ w ∷ [])) ws

-- `done`, and then the other words
abbrev pub word_table : Ast → List (List ℕ)
word_table a = first_seen (codes "done" ∷ []) (words_of a)

-- the variable of that name, and its value of that name
pub record KindMeans (vars : List AstVar) (a : AstKind) (k : Kind) : Type 0 where
  pub sv : IsNumberOf (var_names vars) a.sv k.sv.0
  pub var : AstVar
  pub there : slice_get vars k.sv.0 ≡ Some var
  pub value : IsNumberOf (value_names var) a.value.name k.value.0

abbrev pub StepMeans : List (List ℕ) → AstStep → Step → Type 0
StepMeans words (AstDo w a) (Do v b) = IsNumberOf words w v.0 × (b ≡ a)
StepMeans words (AstUntil w) (Until v) = IsNumberOf words w v.0
StepMeans words _ _ = ⊥

pub record SaidMeans (words : List (List ℕ)) (a : AstSaid) (s : Said) : Type 0 where
  pub delay : s.delay ≡ a.delay
  pub said : IsNumberOf words a.word s.word.0

abbrev pub UseMeans : List (List ℕ) → Use → ValId → Type 0
UseMeans names u i = IsNumberOf names u.name i.0

pub record ValueMeans (words siblings : List (List ℕ)) (a : AstValue) (v : Value) : Type 0 where
  pub name : v.name ≡ a.name
  pub lasts : a.lasts ≡ v.lasts ∷ []
  pub by_device : v.by_device ≡ a.by_device
  pub next : AllZip (UseMeans siblings) a.next v.next
  pub script : AllZip (StepMeans words) a.script v.script
  pub answers : AllZip (AllZip (SaidMeans words)) a.answers v.answers

pub record VarMeans (words : List (List ℕ)) (a : AstVar) (v : Var) : Type 0 where
  pub name : v.name ≡ a.name
  pub values : AllZip (ValueMeans words (value_names a)) a.values v.values
  pub first : Use
  pub written : a.begin ≡ Some first
  pub begin : UseMeans (value_names a) first v.begin

pub record ChoiceMeans (vars : List AstVar) (a : AstChoice) (c : Choice) : Type 0 where
  pub relation : c.relation ≡ a.relation
  pub by : KindMeans vars a.by c.by

pub record NeedMeans (vars : List AstVar) (a : AstNeed) (n : Need) : Type 0 where
  pub of : KindMeans vars a.of n.of
  pub either : AllZip (ChoiceMeans vars) a.either n.either

pub record GoalMeans (vars : List AstVar) (a : AstGoal) (g : Goal) : Type 0 where
  pub kind : KindMeans vars a.kind g.kind
  pub start : g.start ≡ a.start
  pub stop : g.stop ≡ a.stop

pub record HorizonMeans (vars : List AstVar) (a : AstHorizon) (h : Horizon) : Type 0 where
  pub tick : h.tick ≡ a.tick
  pub goals : AllZip (GoalMeans vars) a.goals h.goals

-- m is the written mission with numbers in place of names
pub record Numbers (a : Ast) (m : Mission) : Type 0 where
  pub words : m.words ≡ word_table a
  pub vars : AllZip (VarMeans m.words) a.vars m.vars
  pub needs : AllZip (NeedMeans a.vars) a.needs m.needs
  pub horizons : AllZip (HorizonMeans a.vars) a.horizons m.horizons

-- what a written mission means
pub record Means (a : Ast) (m : Mission) : Type 0 where
  pub numbers : Numbers a m
  pub mission : IsMission m
