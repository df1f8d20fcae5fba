-- A written mission means one mission at most.
use Rattle.std.proofs.Common.{◌≡◌, ℕ, List, map, sym, ap, ◌∙◌, arith}
use Rattle.std.specs.List.{AllZip}
use Rattle.hs_base.specs.declared.mission.Choice.{Choice}
use Rattle.hs_base.specs.declared.mission.Goal.{Goal}
use Rattle.hs_base.specs.declared.mission.Horizon.{Horizon}
use Rattle.hs_base.specs.declared.mission.Mission.{Mission}
use Rattle.hs_base.specs.declared.mission.Need.{Need}
use Rattle.hs_base.specs.declared.mission.Said.{Said}
use Rattle.hs_base.specs.declared.mission.Step.{Step}
use Rattle.hs_base.specs.declared.mission.Step.TheVariants.{Do, Until}
use Rattle.hs_base.specs.declared.ids.ValId.{ValId}
use Rattle.hs_base.specs.declared.ids.WordId.{WordId}
use Rattle.hs_base.specs.declared.mission.Value.{Value}
use Rattle.hs_base.specs.declared.mission.Var.{Var}
use Rattle.hs_texts.specs.declared.ast.Ast.{Ast}
use Rattle.hs_texts.specs.declared.ast.AstChoice.{AstChoice}
use Rattle.hs_texts.specs.declared.ast.AstGoal.{AstGoal}
use Rattle.hs_texts.specs.declared.ast.AstHorizon.{AstHorizon}
use Rattle.hs_texts.specs.declared.ast.AstNeed.{AstNeed}
use Rattle.hs_texts.specs.declared.ast.AstSaid.{AstSaid}
use Rattle.hs_texts.specs.declared.ast.AstStep.{AstStep}
use Rattle.hs_texts.specs.declared.ast.AstStep.TheVariants.{Do as AstDo, Until as AstUntil}
use Rattle.hs_texts.specs.declared.ast.AstValue.{AstValue}
use Rattle.hs_texts.specs.declared.ast.AstVar.{AstVar}
use Rattle.hs_texts.specs.declared.ast.Use.{Use}
use Rattle.hs_texts.specs.MissionMeaning.{IsNumberOf, UseMeans, StepMeans, SaidMeans, ValueMeans, VarMeans, ChoiceMeans, NeedMeans, GoalMeans, HorizonMeans, Numbers, Means, value_names, word_table}
use Rattle.domain_check.specs.Numbering.{word_id, value_id, step_of, said_of, range_of, value_of, begin_of, var_of, choice_of, need_of, goal_of, horizon_of, mission_of}
use Rattle.domain_check.proofs.EachLemmas.{zip_map}
use Rattle.domain_check.proofs.NumberLemmas.{number_is}
use Rattle.domain_check.proofs.MeaningLemmas.{kind_is}

word_is : (words : List (List ℕ)) (name : List ℕ) (w : WordId) → IsNumberOf words name w.0 → w ≡ word_id words name
word_is words name w h = ap (λ (i : ℕ). let u : WordId = record { 0 = i } in u) (number_is words name w.0 h)

use_is : (names : List (List ℕ)) (u : Use) (i : ValId) → UseMeans names u i → i ≡ value_id names u
use_is names u i h = ap (λ (j : ℕ). let w : ValId = record { 0 = j } in w) (number_is names u.name i.0 h)

step_is : (words : List (List ℕ)) (a : AstStep) (s : Step) → StepMeans words a s → s ≡ step_of words a
step_is words (AstDo w b) (Do v c) h = let e = word_is words w v h.0 in let f = h.1 in cc
step_is words (AstUntil w) (Until v) h = ap Until (word_is words w v h)
step_is words (AstDo w b) (Until v) h = absurd h
step_is words (AstUntil w) (Do v c) h = absurd h

said_is : (words : List (List ℕ)) (a : AstSaid) (s : Said) → SaidMeans words a s → s ≡ said_of words a
said_is words a s h = let e = h.delay in let f = word_is words a.word s.word h.said in grind arith

value_is : (words names : List (List ℕ)) (a : AstValue) (v : Value) → ValueMeans words names a v → v ≡ value_of words names a
value_is words names a v h =
    let name = h.name in
    let lasts : v.lasts ≡ range_of a.lasts = sym (ap range_of h.lasts) in
    let by_device = h.by_device in
    let next = zip_map (UseMeans names) (value_id names) (use_is names) a.next v.next h.next in
    let script = zip_map (StepMeans words) (step_of words) (step_is words) a.script v.script h.script in
    let answers = zip_map (AllZip (SaidMeans words)) (map (said_of words)) (λ (x : List AstSaid) (y : List Said) z. zip_map (SaidMeans words) (said_of words) (said_is words) x y z) a.answers v.answers h.answers in
    grind arith

var_is : (words : List (List ℕ)) (a : AstVar) (v : Var) → VarMeans words a v → v ≡ var_of words a
var_is words a v h =
    let name = h.name in
    let values = zip_map (ValueMeans words (value_names a)) (value_of words (value_names a)) (value_is words (value_names a)) a.values v.values h.values in
    let begin : v.begin ≡ begin_of (value_names a) a.begin = use_is (value_names a) h.first v.begin h.begin ∙ sym (ap (begin_of (value_names a)) h.written) in
    grind arith

choice_is : (vars : List AstVar) (a : AstChoice) (c : Choice) → ChoiceMeans vars a c → c ≡ choice_of vars a
choice_is vars a c h = let relation = h.relation in let by = kind_is vars a.by c.by h.by in grind arith

need_is : (vars : List AstVar) (a : AstNeed) (n : Need) → NeedMeans vars a n → n ≡ need_of vars a
need_is vars a n h =
    let of = kind_is vars a.of n.of h.of in
    let either = zip_map (ChoiceMeans vars) (choice_of vars) (choice_is vars) a.either n.either h.either in
    grind arith

goal_is : (vars : List AstVar) (a : AstGoal) (g : Goal) → GoalMeans vars a g → g ≡ goal_of vars a
goal_is vars a g h = let kind = kind_is vars a.kind g.kind h.kind in let start = h.start in let stop = h.stop in grind arith

horizon_is : (vars : List AstVar) (a : AstHorizon) (h : Horizon) → HorizonMeans vars a h → h ≡ horizon_of vars a
horizon_is vars a h k =
    let tick = k.tick in
    let goals = zip_map (GoalMeans vars) (goal_of vars) (goal_is vars) a.goals h.goals k.goals in
    grind arith

numbers_are : (a : Ast) (m : Mission) → Numbers a m → m ≡ mission_of a
numbers_are a m h =
    let words = h.words in
    let vars : m.vars ≡ map (var_of (word_table a)) a.vars = zip_map (VarMeans m.words) (var_of m.words) (var_is m.words) a.vars m.vars h.vars ∙ ap (λ (w : List (List ℕ)). map (var_of w) a.vars) h.words in
    let needs = zip_map (NeedMeans a.vars) (need_of a.vars) (need_is a.vars) a.needs m.needs h.needs in
    let horizons = zip_map (HorizonMeans a.vars) (horizon_of a.vars) (horizon_is a.vars) a.horizons m.horizons h.horizons in
    grind arith

pub means_one : (a : Ast) (m n : Mission) → Means a m → Means a n → m ≡ n
means_one a m n h k = numbers_are a m h.numbers ∙ sym (numbers_are a n k.numbers)
