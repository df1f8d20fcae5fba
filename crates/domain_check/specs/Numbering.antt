-- The numbers of names, and the mission that they give.
use Rattle.std.specs.Prelude.{ℕ, List, [], ◌∷◌, find, map, Option, Some, None}
use Rattle.std.specs.List.{position_or_len}
use Rattle.std.specs.Str.{bytes_eq}
use Rattle.hs_base.specs.declared.mission.Choice.{Choice}
use Rattle.hs_base.specs.declared.mission.Goal.{Goal}
use Rattle.hs_base.specs.declared.mission.Horizon.{Horizon}
use Rattle.hs_base.specs.declared.mission.Kind.{Kind}
use Rattle.hs_base.specs.declared.mission.Mission.{Mission}
use Rattle.hs_base.specs.declared.mission.Need.{Need}
use Rattle.hs_base.specs.declared.mission.Said.{Said}
use Rattle.hs_base.specs.declared.mission.Step.{Step}
use Rattle.hs_base.specs.declared.mission.Step.TheVariants.{Do, Until}
use Rattle.hs_base.specs.declared.ids.ValId.{ValId}
use Rattle.hs_base.specs.declared.ids.WordId.{WordId}
use Rattle.hs_base.specs.declared.mission.Value.{Value}
use Rattle.hs_base.specs.declared.mission.Var.{Var}
use Rattle.hs_base.specs.declared.range.Range.{Range}
use Rattle.hs_texts.specs.declared.ast.Ast.{Ast}
use Rattle.hs_texts.specs.declared.ast.AstChoice.{AstChoice}
use Rattle.hs_texts.specs.declared.ast.AstStep.TheVariants.{Do as AstDo, Until as AstUntil}
use Rattle.hs_texts.specs.declared.ast.AstGoal.{AstGoal}
use Rattle.hs_texts.specs.declared.ast.AstHorizon.{AstHorizon}
use Rattle.hs_texts.specs.declared.ast.AstKind.{AstKind}
use Rattle.hs_texts.specs.declared.ast.AstNeed.{AstNeed}
use Rattle.hs_texts.specs.declared.ast.AstSaid.{AstSaid}
use Rattle.hs_texts.specs.declared.ast.AstStep.{AstStep}
use Rattle.hs_texts.specs.declared.ast.AstValue.{AstValue}
use Rattle.hs_texts.specs.declared.ast.AstVar.{AstVar}
use Rattle.hs_texts.specs.declared.ast.Use.{Use}
use Rattle.hs_base.specs.Ranges.{whole}
use Rattle.hs_texts.specs.MissionMeaning.{var_names, value_names, word_table}

-- the first place of a name, or the length where it has none
abbrev pub number_in : List (List ℕ) → List ℕ → ℕ
number_in names name = position_or_len (bytes_eq name) names

abbrev pub word_id : List (List ℕ) → List ℕ → WordId
word_id words name = record { 0 = number_in words name }

abbrev pub value_id : List (List ℕ) → Use → ValId
value_id names u = record { 0 = number_in names u.name }

-- the first variable of a name
abbrev pub var_named : List AstVar → List ℕ → Option AstVar
var_named vars name = find (λ (var : AstVar). bytes_eq name var.name) vars

-- of x.y: the number of y among the values of variable x
abbrev pub number_in_var : Option AstVar → Use → ValId
number_in_var None u = record { 0 = 0 }
number_in_var (Some var) u = value_id (value_names var) u

abbrev pub kind_of : List AstVar → AstKind → Kind
kind_of vars k = record {
  sv = record { 0 = number_in (var_names vars) k.sv };
  value = number_in_var (var_named vars k.sv) k.value;
}

abbrev pub step_of : List (List ℕ) → AstStep → Step
step_of words (AstDo ordered amount) = Do (word_id words ordered) amount
step_of words (AstUntil awaited) = Until (word_id words awaited)

abbrev pub said_of : List (List ℕ) → AstSaid → Said
said_of words s = record { delay = s.delay; word = word_id words s.word }

-- the one range of a value
abbrev pub range_of : List Range → Range
range_of [] = whole
range_of (r ∷ rs) = r

abbrev pub value_of : List (List ℕ) → List (List ℕ) → AstValue → Value
value_of words siblings v = record {
  name = v.name;
  lasts = range_of v.lasts;
  by_device = v.by_device;
  next = map (value_id siblings) v.next;
  script = map (step_of words) v.script;
  answers = map (map (said_of words)) v.answers;
}

abbrev pub begin_of : List (List ℕ) → Option Use → ValId
begin_of names None = record { 0 = 0 }
begin_of names (Some u) = value_id names u

abbrev pub var_of : List (List ℕ) → AstVar → Var
var_of words var = record {
  name = var.name;
  values = map (value_of words (value_names var)) var.values;
  begin = begin_of (value_names var) var.begin;
}

abbrev pub choice_of : List AstVar → AstChoice → Choice
choice_of vars c = record { relation = c.relation; by = kind_of vars c.by }

abbrev pub need_of : List AstVar → AstNeed → Need
need_of vars n = record { of = kind_of vars n.of; either = map (choice_of vars) n.either }

abbrev pub goal_of : List AstVar → AstGoal → Goal
goal_of vars g = record { kind = kind_of vars g.kind; start = g.start; stop = g.stop }

abbrev pub horizon_of : List AstVar → AstHorizon → Horizon
horizon_of vars h = record { tick = h.tick; goals = map (goal_of vars) h.goals }

-- each name replaced by its number
abbrev pub mission_of : Ast → Mission
mission_of a = record {
  vars = map (var_of (word_table a)) a.vars;
  needs = map (need_of a.vars) a.needs;
  horizons = map (horizon_of a.vars) a.horizons;
  words = word_table a;
}
