-- A mission that breaks no rule is one.
use Rattle.std.proofs.Common.{◌≡◌, ◌≢◌, ℕ, zero, suc, ◌<◌, ◌≤◌, true, false, not, ◌&&◌, List, [], ◌∷◌, length, map, flat_map, Some, pos, refl, sym, ap, subst, ◌∙◌, inl, inr, arith}
use Rattle.std.proofs.lemmas.Bool.{cases_Bool}
use Rattle.std.proofs.lemmas.Bool.Decides.{nat_tests}
use Rattle.std.proofs.lemmas.Int.{ints}
use Rattle.std.proofs.lemmas.List.{length-map}
use Rattle.std.specs.Prelude.{◌≤ℤ◌, ℤ, nat_le, int_le, int_lt, slice_get, Option, filter}
use Rattle.std.specs.List.{AllByRecursion, list_all}
use Rattle.hs_base.specs.declared.limits.TheConstants.{VALUES, CHOICES, LAST_HORIZON, GOALS, SCRIPT_STEPS, ANSWER_CLAUSES, ANSWERS}
use Rattle.hs_base.specs.declared.relation.Relation.{Relation}
use Rattle.hs_base.specs.declared.relation.Relation.TheVariants.{Before, After, Meets as MeetsStart, MetBy, Starts, Ends, Equals, Contains as Encloses, ContainedBy}
use Rattle.hs_base.specs.declared.mission.Choice.{Choice}
use Rattle.hs_base.specs.declared.mission.Said.{Said}
use Rattle.hs_base.specs.declared.ids.ValId.{ValId}
use Rattle.hs_base.specs.declared.mission.Value.{Value}
use Rattle.hs_base.specs.declared.range.Range.{Range}
use Rattle.hs_texts.specs.declared.ast.AstChoice.{AstChoice}
use Rattle.hs_texts.specs.declared.ast.AstStep.TheVariants.{Do as AstDo, Until as AstUntil}
use Rattle.hs_texts.specs.declared.ast.AstGoal.{AstGoal}
use Rattle.hs_texts.specs.declared.ast.AstHorizon.{AstHorizon}
use Rattle.hs_texts.specs.declared.ast.AstKind.{AstKind}
use Rattle.hs_texts.specs.declared.ast.AstNeed.{AstNeed}
use Rattle.hs_texts.specs.declared.ast.AstSaid.{AstSaid}
use Rattle.hs_texts.specs.declared.ast.AstStep.{AstStep}
use Rattle.hs_texts.specs.declared.ast.AstValue.{AstValue}
use Rattle.hs_texts.specs.declared.ast.AstVar.{AstVar}
use Rattle.hs_texts.specs.declared.ast.Use.{Use}
use Rattle.std.specs.Str.{bytes_eq}
use Rattle.std.specs.Cmp.Lexicographic.{bytes_decides}
use Rattle.hs_base.specs.Names.{IsName}
use Rattle.hs_base.specs.Ranges.{range, InRange, IsRange}
use Rattle.hs_base.specs.Walks.{AreDifferent}
use Rattle.hs_texts.specs.CanonicalText.{is_whole}
use Rattle.hs_base.specs.Missions.{IsKindOf, HasRanges, IsStep, IsSaid, ends_waiting, IsValue, IsVar, IsChoice, IsNeed, IsGoal, IsHorizon}
use Rattle.hs_texts.specs.MissionMeaning.{KindMeans, var_names, value_names, step_word, words_of_value}
use Rattle.hs_texts.specs.MissionRefusals.{is_among, names_again, next_names, is_exchanged, is_no_duration, ranges_of_relation, ranges_of_goal, from_one_to, asks_twice}
use Rattle.base_laws.proofs.ListLemmas.{each_split, each_weaker}
use Rattle.domain_check.specs.Numbering.{number_in, value_id, kind_of, step_of, said_of, range_of, value_of, begin_of, var_of, choice_of, need_of, goal_of, horizon_of}
use Rattle.text_laws.specs.Writable.{AreLimits, IsWritableStep, ends_awaiting, IsWritableSaid, AreWritableAnswers, IsWritableValue, HasLimits, IsWritableGoal}
use Rattle.domain_check.proofs.EachLemmas.{each_passes}
use Rattle.domain_check.proofs.NumberLemmas.{number_within, within}
use Rattle.domain_check.proofs.DifferLemmas.{next_different, choices_different}

-- tests of numbers

pub few : (n most : ℕ) → nat_le n most ≡ true → n ≤ most
few n most h = grind (arith, nat_tests)

pub some_few : (most n : ℕ) → from_one_to most n ≡ true → (0 < n) × (n ≤ most)
some_few most n h = elim (cases_Bool (nat_le 1 n)) [
  | inl some ↦
      let k : nat_le n most ≡ true = rw some at h in
      let low : 1 ≤ n = few 1 n some in
      (omega arith, few n most k)
  | inr none ↦ absurd (let k : false ≡ true = rw none at h in cc)
]

-- ranges

pub in_order : (r : Range) → is_exchanged r ≡ false → r.low ≤ℤ r.high
in_order r h = grind (arith, ints)

pub times_in : (r : Range) → AreLimits r → is_exchanged r ≡ false → IsRange (pos 0) r
times_in r limits h = (limits.low.0, in_order r h, limits.high.1)

pub durations_in : (r : Range) → AreLimits r → is_no_duration r ≡ false → IsRange (pos 1) r
durations_in r limits h = elim (cases_Bool (is_exchanged r)) [
  | inl exchanged ↦ absurd (let k : true ≡ false = rw exchanged at h in cc)
  | inr ordered ↦
      let k : int_lt r.low (pos 1) ≡ false = rw ordered at h in
      (at_least r.low k, in_order r ordered, limits.high.1)
]
  where
    at_least : (z : ℤ) → int_lt z (pos 1) ≡ false → pos 1 ≤ℤ z
    at_least z k = grind (arith, ints)

pub relation_in : (r : Relation) → HasLimits r → AllByRecursion (λ s. is_exchanged s ≡ false) (ranges_of_relation r) → HasRanges r
relation_in (Before r) l h = times_in r l h.0
relation_in (After r) l h = times_in r l h.0
relation_in MeetsStart l h = tt
relation_in MetBy l h = tt
relation_in (Starts r) l h = times_in r l h.0
relation_in (Ends r) l h = times_in r l h.0
relation_in Equals l h = tt
relation_in (Encloses r s) l h = (times_in r l.0 h.0, times_in s l.1 h.1.0)
relation_in (ContainedBy r s) l h = (times_in r l.0 h.0, times_in s l.1 h.1.0)

-- the ranges of a goal, also where one is `[0,inf]`
pub goal_in : (g : AstGoal) → AreLimits g.start → AreLimits g.stop → AllByRecursion (λ r. is_exchanged r ≡ false) (ranges_of_goal g) → IsRange (pos 0) g.start × IsRange (pos 0) g.stop
goal_in g start stop h = elim (cases_Bool (is_whole g.start)) [
  | inl all ↦
      let k : AllByRecursion (λ r. is_exchanged r ≡ false) (filter (λ r. not (is_whole r)) (g.stop ∷ [])) = rw all at h in
      (times_in g.start start (whole_in g.start all), one g.stop stop k)
  | inr part ↦
      let k : AllByRecursion (λ r. is_exchanged r ≡ false) (g.start ∷ filter (λ r. not (is_whole r)) (g.stop ∷ [])) = rw part at h in
      (times_in g.start start k.0, one g.stop stop k.1)
]
  where
    whole_in : (r : Range) → is_whole r ≡ true → is_exchanged r ≡ false
    whole_in r h = grind (arith, ints)

    one : (r : Range) → AreLimits r → AllByRecursion (λ r. is_exchanged r ≡ false) (filter (λ r. not (is_whole r)) (r ∷ [])) → IsRange (pos 0) r
    one r limits h = elim (cases_Bool (is_whole r)) [
      | inl all ↦ times_in r limits (whole_in r all)
      | inr part ↦ let k : AllByRecursion (λ r. is_exchanged r ≡ false) (r ∷ []) = rw part at h in times_in r limits k.0
    ]

-- scripts

pub waits_still : (words : List (List ℕ)) (steps : List AstStep) → ends_awaiting steps ≡ true → ends_waiting (map (step_of words) steps) ≡ true
waits_still words [] h = absurd cc
waits_still words (AstDo ordered amount ∷ []) h = absurd cc
waits_still words (AstUntil awaited ∷ []) h = refl
waits_still words (AstDo ordered amount ∷ t ∷ steps) h = waits_still words (t ∷ steps) h
waits_still words (AstUntil awaited ∷ t ∷ steps) h = waits_still words (t ∷ steps) h

step_in : (words : List (List ℕ)) (s : AstStep) → IsWritableStep s → is_among words (step_word s) ≡ true → IsStep (length words) (step_of words s)
step_in words (AstDo ordered amount) w k = (number_within words ordered k, w.1)
step_in words (AstUntil awaited) w k = number_within words awaited k

steps_in : (words : List (List ℕ)) (steps : List AstStep) → AllByRecursion IsWritableStep steps → AllByRecursion (λ n. is_among words n ≡ true) (map step_word steps) → AllByRecursion (IsStep (length words)) (map (step_of words) steps)
steps_in words [] w k = tt
steps_in words (s ∷ steps) w k = (step_in words s w.0 k.0, steps_in words steps w.1 k.1)

said_in : (words : List (List ℕ)) (said : List AstSaid) → AllByRecursion IsWritableSaid said → AllByRecursion (λ n. is_among words n ≡ true) (map (λ (s : AstSaid). s.word) said) → AllByRecursion (IsSaid (length words)) (map (said_of words) said)
said_in words [] w k = tt
said_in words (s ∷ said) w k = ((number_within words s.word k.0, w.0.delay), said_in words said w.1 k.1)

answers_in : (words : List (List ℕ)) (answers : List (List AstSaid)) → AllByRecursion AreWritableAnswers answers → AllByRecursion (λ n. is_among words n ≡ true) (flat_map (λ (said : List AstSaid). map (λ (s : AstSaid). s.word) said) answers) → AllByRecursion (λ said. AllByRecursion (IsSaid (length words)) said) (map (map (said_of words)) answers)
answers_in words [] w k = tt
answers_in words (said ∷ answers) w k =
    let parts = each_split (λ n. is_among words n ≡ true) (map (λ (s : AstSaid). s.word) said) (flat_map (λ (said : List AstSaid). map (λ (s : AstSaid). s.word) said) answers) k in
    (said_in words said w.0.each parts.0, answers_in words answers w.1 parts.1)

few_said : (words : List (List ℕ)) (answers : List (List AstSaid)) → AllByRecursion (λ (said : List AstSaid). nat_le (length said) ANSWERS ≡ true) answers → AllByRecursion (λ (said : List Said). length said ≤ ANSWERS) (map (map (said_of words)) answers)
few_said words [] h = tt
few_said words (said ∷ answers) h = (subst (λ n. n ≤ ANSWERS) (sym (length-map said (said_of words))) (few (length said) ANSWERS h.0), few_said words answers h.1)

-- values

-- what is written of a value, and keeps the rules
pub record IsGoodValue (words siblings : List (List ℕ)) (v : AstValue) : Type 0 where
  pub writable : IsWritableValue v
  pub next : AllByRecursion (λ n. is_among siblings n ≡ true) (next_names v)
  pub said : AllByRecursion (λ n. is_among words n ≡ true) (words_of_value v)
  pub once : names_again (next_names v) ≡ []
  pub duration : AllByRecursion (λ r. is_no_duration r ≡ false) v.lasts
  pub few_steps : nat_le (length v.script) SCRIPT_STEPS ≡ true
  pub few_clauses : nat_le (length v.answers) ANSWER_CLAUSES ≡ true
  pub few_answers : list_all (λ (said : List AstSaid). nat_le (length said) ANSWERS) v.answers ≡ true

next_in : (siblings : List (List ℕ)) (us : List Use) → AllByRecursion (λ n. is_among siblings n ≡ true) (map (λ (u : Use). u.name) us) → AllByRecursion (λ (i : ValId). i.0 < length siblings) (map (value_id siblings) us)
next_in siblings [] h = tt
next_in siblings (u ∷ us) h = (number_within siblings u.name h.0, next_in siblings us h.1)

pub value_in : (words siblings : List (List ℕ)) (v : AstValue) → IsGoodValue words siblings v → IsValue (length words) (length siblings) (value_of words siblings v)
value_in words siblings v h =
    let w = h.writable in
    let said = each_split (λ n. is_among words n ≡ true) (map step_word v.script) (flat_map (λ (said : List AstSaid). map (λ (s : AstSaid). s.word) said) v.answers) h.said in
    let only : AllByRecursion (λ r. is_no_duration r ≡ false) (w.lasts ∷ []) = subst (AllByRecursion (λ r. is_no_duration r ≡ false)) w.only h.duration in
    record {
      name = w.name;
      lasts = subst (IsRange (pos 1)) (sym (ap range_of w.only)) (durations_in w.lasts w.limits only.0);
      next = next_in siblings v.next h.next;
      next_differ = next_different siblings v.next h.next h.once;
      few_steps = subst (λ n. n ≤ SCRIPT_STEPS) (sym (length-map v.script (step_of words))) (few (length v.script) SCRIPT_STEPS h.few_steps);
      steps = steps_in words v.script w.steps said.0;
      waits = λ device. waits_still words v.script (w.waits device);
      few_clauses = subst (λ n. n ≤ ANSWER_CLAUSES) (sym (length-map v.answers (map (said_of words)))) (few (length v.answers) ANSWER_CLAUSES h.few_clauses);
      few_answers = few_said words v.answers (each_passes (λ (said : List AstSaid). nat_le (length said) ANSWERS) v.answers h.few_answers);
      answers = answers_in words v.answers w.answers said.1;
      no_script = λ plain. ap (map (step_of words)) (w.no_script plain);
      no_answers = λ plain. ap (map (map (said_of words))) (w.no_answers plain);
    }

-- variables

-- what is written of a variable, and keeps the rules
pub record IsGoodVar (words : List (List ℕ)) (var : AstVar) : Type 0 where
  pub name : IsName var.name
  pub first : Use
  pub begins : var.begin ≡ Some first
  pub begin : is_among (value_names var) first.name ≡ true
  pub count : from_one_to VALUES (length var.values) ≡ true
  pub differ : AreDifferent (value_names var)
  pub values : AllByRecursion (IsGoodValue words (value_names var)) var.values

pub names_of_made : (words siblings : List (List ℕ)) (vs : List AstValue) → map (λ (v : Value). v.name) (map (value_of words siblings) vs) ≡ map (λ (v : AstValue). v.name) vs
names_of_made words siblings [] = refl
names_of_made words siblings (v ∷ vs) = ap (λ ns. v.name ∷ ns) (names_of_made words siblings vs)

values_in : (words siblings : List (List ℕ)) (n : ℕ) (vs : List AstValue) → length siblings ≡ n → AllByRecursion (IsGoodValue words siblings) vs → AllByRecursion (IsValue (length words) n) (map (value_of words siblings) vs)
values_in words siblings n [] e h = tt
values_in words siblings n (v ∷ vs) e h = (subst (λ k. IsValue (length words) k (value_of words siblings v)) e (value_in words siblings v h.0), values_in words siblings n vs e h.1)

pub var_in : (words : List (List ℕ)) (var : AstVar) → IsGoodVar words var → IsVar (length words) (var_of words var)
var_in words var h =
    let made : length (map (value_of words (value_names var)) var.values) ≡ length var.values = length-map var.values (value_of words (value_names var)) in
    let named : length (value_names var) ≡ length var.values = length-map var.values (λ (v : AstValue). v.name) in
    let count = some_few VALUES (length var.values) h.count in
    let begin : number_in (value_names var) h.first.name < length (value_names var) = number_within (value_names var) h.first.name h.begin in
    record {
      name = h.name;
      some_values = subst (λ n. 0 < n) (sym made) count.0;
      few_values = subst (λ n. n ≤ VALUES) (sym made) count.1;
      values_differ = subst AreDifferent (sym (names_of_made words (value_names var) var.values)) h.differ;
      values = values_in words (value_names var) (length (map (value_of words (value_names var)) var.values)) var.values (named ∙ sym made) h.values;
      begin = subst (λ (o : Option Use). (begin_of (value_names var) o).0 < length (map (value_of words (value_names var)) var.values)) (sym h.begins)
          (subst (λ n. number_in (value_names var) h.first.name < n) (named ∙ sym made) begin);
    }

-- kinds

kind_in : (words : List (List ℕ)) (vars : List AstVar) (k : AstKind) → KindMeans vars k (kind_of vars k) → IsKindOf (map (var_of words) vars) (kind_of vars k)
kind_in words vars k h =
    let made : length (map (value_of words (value_names h.var)) h.var.values) ≡ length h.var.values = length-map h.var.values (value_of words (value_names h.var)) in
    let named : length (value_names h.var) ≡ length h.var.values = length-map h.var.values (λ (v : AstValue). v.name) in (
      var_of words h.var,
      slice_get-map (var_of words) vars (kind_of vars k).sv.0 h.var h.there,
      subst (λ n. (kind_of vars k).value.0 < n) (named ∙ sym made) (within (value_names h.var) (kind_of vars k).value.0 k.value.name h.value.here),
    )
  where
    slice_get-map : {X Y : Type 0} (f : X → Y) (xs : List X) (i : ℕ) (x : X) → slice_get xs i ≡ Some x → slice_get (map f xs) i ≡ Some (f x)
    slice_get-map f [] i x h = absurd cc
    slice_get-map f (y ∷ xs) zero x h = let e : y ≡ x = cc in ap (λ z. Some (f z)) e
    slice_get-map f (y ∷ xs) (suc i) x h = slice_get-map f xs i x h

-- needs

pub record IsGoodChoice (vars : List AstVar) (of : AstKind) (c : AstChoice) : Type 0 where
  pub limits : HasLimits c.relation
  pub means : KindMeans vars c.by (kind_of vars c.by)
  pub other : bytes_eq c.by.sv of.sv ≡ false
  pub ordered : AllByRecursion (λ r. is_exchanged r ≡ false) (ranges_of_relation c.relation)

pub record IsGoodNeed (vars : List AstVar) (n : AstNeed) : Type 0 where
  pub means : KindMeans vars n.of (kind_of vars n.of)
  pub count : from_one_to CHOICES (length n.either) ≡ true
  pub choices : AllByRecursion (IsGoodChoice vars n.of) n.either
  pub once : asks_twice n.either ≡ false

other_variable : (vars : List AstVar) (a b : AstKind) → KindMeans vars a (kind_of vars a) → KindMeans vars b (kind_of vars b) → bytes_eq a.sv b.sv ≡ false → (kind_of vars a).sv.0 ≢ (kind_of vars b).sv.0
other_variable vars a b ha hb other e =
    let at : slice_get (var_names vars) (kind_of vars b).sv.0 ≡ Some a.sv = subst (λ n. slice_get (var_names vars) n ≡ Some a.sv) e ha.sv.here in
    let there : slice_get (var_names vars) (kind_of vars b).sv.0 ≡ Some b.sv = hb.sv.here in
    let one : Some a.sv ≡ Some b.sv = sym at ∙ there in
    let same : a.sv ≡ b.sv = cc in
    let k : bytes_eq a.sv b.sv ≡ true = (bytes_decides a.sv b.sv).1 same in
    absurd (cc (k, other))

choices_in : (words : List (List ℕ)) (vars : List AstVar) (of : AstKind) (cs : List AstChoice) → KindMeans vars of (kind_of vars of) → AllByRecursion (IsGoodChoice vars of) cs → AllByRecursion (IsChoice (map (var_of words) vars) (kind_of vars of)) (map (choice_of vars) cs)
choices_in words vars of [] m h = tt
choices_in words vars of (c ∷ cs) m h = (
  record {
    kind = kind_in words vars c.by h.0.means;
    other_variable = other_variable vars c.by of h.0.means m h.0.other;
    ranges = relation_in c.relation h.0.limits h.0.ordered;
  },
  choices_in words vars of cs m h.1,
)

kinds_made : (vars : List AstVar) (cs : List AstChoice) → map (λ (c : Choice). c.by) (map (choice_of vars) cs) ≡ map (λ (c : AstChoice). kind_of vars c.by) cs
kinds_made vars [] = refl
kinds_made vars (c ∷ cs) = ap (λ ks. kind_of vars c.by ∷ ks) (kinds_made vars cs)

pub need_in : (words : List (List ℕ)) (vars : List AstVar) (n : AstNeed) → IsGoodNeed vars n → IsNeed (map (var_of words) vars) (need_of vars n)
need_in words vars n h =
    let made : length (map (choice_of vars) n.either) ≡ length n.either = length-map n.either (choice_of vars) in
    let count = some_few CHOICES (length n.either) h.count in
    record {
      kind = kind_in words vars n.of h.means;
      some_choices = subst (λ m. 0 < m) (sym made) count.0;
      few_choices = subst (λ m. m ≤ CHOICES) (sym made) count.1;
      choices = choices_in words vars n.of n.either h.means h.choices;
      kinds_differ = subst AreDifferent (sym (kinds_made vars n.either)) (choices_different vars n.either (each_weaker (IsGoodChoice vars n.of) (λ (c : AstChoice). KindMeans vars c.by (kind_of vars c.by)) (λ c k. k.means) n.either h.choices) h.once);
    }

-- goals and horizons

pub record IsGoodGoal (vars : List AstVar) (g : AstGoal) : Type 0 where
  pub writable : IsWritableGoal g
  pub means : KindMeans vars g.kind (kind_of vars g.kind)
  pub ordered : AllByRecursion (λ r. is_exchanged r ≡ false) (ranges_of_goal g)

pub record IsGoodHorizon (vars : List AstVar) (h : AstHorizon) : Type 0 where
  pub tick : (int_le (pos 1) h.tick && int_le h.tick LAST_HORIZON) ≡ true
  pub count : nat_le (length h.goals) GOALS ≡ true
  pub goals : AllByRecursion (IsGoodGoal vars) h.goals

goals_in : (words : List (List ℕ)) (vars : List AstVar) (gs : List AstGoal) → AllByRecursion (IsGoodGoal vars) gs → AllByRecursion (IsGoal (map (var_of words) vars)) (map (goal_of vars) gs)
goals_in words vars [] h = tt
goals_in words vars (g ∷ gs) h =
    let k = goal_in g h.0.writable.start h.0.writable.stop h.0.ordered in
    (record { kind = kind_in words vars g.kind h.0.means; start = k.0; stop = k.1 }, goals_in words vars gs h.1)

pub horizon_in : (words : List (List ℕ)) (vars : List AstVar) (h : AstHorizon) → IsGoodHorizon vars h → IsHorizon (map (var_of words) vars) (horizon_of vars h)
horizon_in words vars h k = record {
  tick = ticks h.tick k.tick;
  few_goals = subst (λ n. n ≤ GOALS) (sym (length-map h.goals (goal_of vars))) (few (length h.goals) GOALS k.count);
  goals = goals_in words vars h.goals k.goals;
}
  where
    ticks : (z : ℤ) → (int_le (pos 1) z && int_le z LAST_HORIZON) ≡ true → InRange (range (pos 1) LAST_HORIZON) z
    ticks z e = elim (cases_Bool (int_le (pos 1) z)) [
      | inl low ↦
          let high : int_le z LAST_HORIZON ≡ true = rw low at e in
          (le_from (pos 1) z low, le_from z LAST_HORIZON high)
      | inr none ↦ absurd (let k : false ≡ true = rw none at e in cc)
    ]
      where
        le_from : (x y : ℤ) → int_le x y ≡ true → x ≤ℤ y
        le_from x y e = grind (arith, ints)
