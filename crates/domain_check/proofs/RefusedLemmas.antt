-- A mission that is meant breaks no rule.
use Rattle.std.proofs.Common.{◌≡◌, ◌≢◌, ℕ, suc, ◌<◌, ◌≤◌, Bool, true, false, not, cond, ◌&&◌, List, [], ◌∷◌, ◌++◌, length, map, flat_map, Some, None, pos, refl, sym, ap, subst, ◌∙◌, inl, inr, arith}
use Rattle.std.proofs.lemmas.Bool.{cases_Bool}
use Rattle.std.proofs.lemmas.Bool.Decides.{nat_tests}
use Rattle.std.proofs.lemmas.Int.{ints}
use Rattle.std.specs.Prelude.{◌≤ℤ◌, ◌<ℤ◌, ℤ, nat_le, int_le, int_lt, filter, filter_map}
use Rattle.std.specs.List.{AllByRecursion, AllZip, list_all}
use Rattle.std.specs.Str.{bytes_eq}
use Rattle.hs_base.specs.declared.limits.TheConstants.{VARIABLES, VALUES, NEEDS, CHOICES, HORIZONS, LAST_HORIZON, GOALS, SCRIPT_STEPS, ANSWER_CLAUSES, ANSWERS}
use Rattle.hs_base.specs.declared.relation.Relation.{Relation}
use Rattle.hs_base.specs.declared.relation.Relation.TheVariants.{Before, After, Meets as MeetsStart, MetBy, Starts, Ends, Equals, Contains as Encloses, ContainedBy}
use Rattle.hs_base.specs.declared.mission.Choice.{Choice}
use Rattle.hs_base.specs.declared.mission.Horizon.{Horizon}
use Rattle.hs_base.specs.declared.mission.Kind.{Kind}
use Rattle.hs_base.specs.declared.mission.Mission.{Mission}
use Rattle.hs_base.specs.declared.mission.Need.{Need}
use Rattle.hs_base.specs.declared.mission.Said.{Said}
use Rattle.hs_base.specs.declared.ids.ValId.{ValId}
use Rattle.hs_base.specs.declared.mission.Value.{Value}
use Rattle.hs_base.specs.declared.mission.Var.{Var}
use Rattle.hs_base.specs.declared.range.Range.{Range}
use Rattle.hs_texts.specs.declared.ast.Ast.{Ast}
use Rattle.hs_texts.specs.declared.ast.AstChoice.{AstChoice}
use Rattle.hs_texts.specs.declared.ast.AstGoal.{AstGoal}
use Rattle.hs_texts.specs.declared.ast.AstHorizon.{AstHorizon}
use Rattle.hs_texts.specs.declared.ast.AstKind.{AstKind}
use Rattle.hs_texts.specs.declared.ast.AstNeed.{AstNeed}
use Rattle.hs_texts.specs.declared.ast.AstSaid.{AstSaid}
use Rattle.hs_texts.specs.declared.ast.AstValue.{AstValue}
use Rattle.hs_texts.specs.declared.ast.AstVar.{AstVar}
use Rattle.hs_texts.specs.declared.ast.Use.{Use}
use Rattle.hs_base.specs.Ranges.{IsRange}
use Rattle.hs_base.specs.Walks.{join_after, EachAfter, IsInOrder, AreDifferent}
use Rattle.hs_texts.specs.CanonicalText.{is_whole}
use Rattle.hs_base.specs.Missions.{HasRanges, IsValue, IsVar, IsChoice, IsNeed, IsGoal, IsHorizon}
use Rattle.hs_texts.specs.MissionMeaning.{KindMeans, UseMeans, ValueMeans, VarMeans, ChoiceMeans, NeedMeans, GoalMeans, HorizonMeans, Means, var_names, value_names}
use Rattle.hs_texts.specs.MissionRefusals.{places, again, names_again, value_again, var_again, next_names, begin_names, unknown_in_var, unknown_in_kind, kinds_of_need, kinds_of, is_exchanged, is_no_duration, ranges_of_relation, ranges_of_goal, durations, distances, from_one_to, all_values, limits_kept, lacks_begin, is_early, asks_itself, asks_twice}
use Rattle.base_laws.proofs.ListLemmas.{each_both, each_weaker, EachAfter-both}
use Rattle.domain_check.specs.Numbering.{number_in, value_id, kind_of}
use Rattle.domain_check.proofs.EachLemmas.{none_joined, each_none, none_each, none_after, each_mapped, each_unmapped, after_mapped, after_unmapped, passes_each, fails_each, zip_map, zip_each}
use Rattle.domain_check.proofs.NumberLemmas.{number_is, among_at}
use Rattle.domain_check.proofs.MeaningLemmas.{Known, none_unknown, part_each, kind_known, kind_is}
use Rattle.domain_check.proofs.DifferLemmas.{after_weaker, each_after, not_again, names_apart, next_not_again, different_choices}
use Rattle.domain_check.proofs.RisingLemmas.{none_early}
use Rattle.domain_check.specs.Rules.{KeepsRules}

-- what pairs with something of which Q holds
zip_back : {X Y : Type 0} (R : X → Y → Type 0) (Q : Y → Type 0) (P : X → Type 0) → ((x : X) (y : Y) → R x y → Q y → P x) → (xs : List X) (ys : List Y) → AllZip R xs ys → AllByRecursion Q ys → AllByRecursion P xs
zip_back R Q P f [] ys z q = tt
zip_back R Q P f (x ∷ xs) [] z q = absurd z
zip_back R Q P f (x ∷ xs) (y ∷ ys) z q = (f x y z.0 q.0, zip_back R Q P f xs ys z.1 q.1)

zip_length : {X Y : Type 0} (R : X → Y → Type 0) (xs : List X) (ys : List Y) → AllZip R xs ys → length ys ≡ length xs
zip_length R [] [] z = refl
zip_length R [] (y ∷ ys) z = absurd z
zip_length R (x ∷ xs) [] z = absurd z
zip_length R (x ∷ xs) (y ∷ ys) z = ap suc (zip_length R xs ys z.1)

zip_images : {X Y Z : Type 0} (R : X → Y → Type 0) (f : X → Z) (g : Y → Z) → ((x : X) (y : Y) → R x y → g y ≡ f x) → (xs : List X) (ys : List Y) → AllZip R xs ys → map g ys ≡ map f xs
zip_images R f g e [] [] z = refl
zip_images R f g e [] (y ∷ ys) z = absurd z
zip_images R f g e (x ∷ xs) [] z = absurd z
zip_images R f g e (x ∷ xs) (y ∷ ys) z = ap (λ z. z ∷ map g ys) (e x y z.0) ∙ ap (λ zs. f x ∷ zs) (zip_images R f g e xs ys z.1)

placed_none : {X : Type 0} (test : X → Bool) (xs : List X) → AllByRecursion (λ x. test x ≡ false) xs → places test xs ≡ []
placed_none test xs h =
    none_after (λ before x. cond (test x) (length before ∷ []) []) [] xs
    (after_weaker (λ before x. test x ≡ false) (λ before x. cond (test x) (length before ∷ []) [] ≡ []) (λ before x k. rw k refl) [] xs (each_after (λ x. test x ≡ false) [] xs h))

-- numbers

few_test : (n most : ℕ) → n ≤ most → nat_le n most ≡ true
few_test n most h = grind (arith, nat_tests)

some_few_test : (most n : ℕ) → 0 < n → n ≤ most → from_one_to most n ≡ true
some_few_test most n some few = let low : nat_le 1 n ≡ true = few_test 1 n (omega arith) in rw low (few_test n most few)

ordered : (r : Range) → r.low ≤ℤ r.high → is_exchanged r ≡ false
ordered r h = grind (arith, ints)

times_ordered : (r : Range) → IsRange (pos 0) r → is_exchanged r ≡ false
times_ordered r h = ordered r h.1

durations_ordered : (r : Range) → IsRange (pos 1) r → is_no_duration r ≡ false
durations_ordered r h = rw (ordered r h.1) (at_least r.low h.0)
  where
    at_least : (z : ℤ) → pos 1 ≤ℤ z → int_lt z (pos 1) ≡ false
    at_least z k = grind (arith, ints)

relation_ordered : (r : Relation) → HasRanges r → AllByRecursion (λ s. is_exchanged s ≡ false) (ranges_of_relation r)
relation_ordered (Before r) h = (times_ordered r h, tt)
relation_ordered (After r) h = (times_ordered r h, tt)
relation_ordered MeetsStart h = tt
relation_ordered MetBy h = tt
relation_ordered (Starts r) h = (times_ordered r h, tt)
relation_ordered (Ends r) h = (times_ordered r h, tt)
relation_ordered Equals h = tt
relation_ordered (Encloses r s) h = (times_ordered r h.0, (times_ordered s h.1, tt))
relation_ordered (ContainedBy r s) h = (times_ordered r h.0, (times_ordered s h.1, tt))

each_kept : {X : Type 0} (P : X → Type 0) (p : X → Bool) (xs : List X) → AllByRecursion P xs → AllByRecursion P (filter p xs)
each_kept P p [] h = tt
each_kept P p (x ∷ xs) h = elim (cases_Bool (p x)) [ inl passes ↦ rw passes (h.0, each_kept P p xs h.1) | inr fails ↦ rw fails (each_kept P p xs h.1) ]

-- values

record KeepsValue (S : List (List ℕ)) (v : AstValue) : Type 0 where
  once : names_again (next_names v) ≡ []
  known : AllByRecursion (Known S) (next_names v)
  lasting : AllByRecursion (λ r. is_no_duration r ≡ false) v.lasts
  steps : nat_le (length v.script) SCRIPT_STEPS ≡ true
  clauses : nat_le (length v.answers) ANSWER_CLAUSES ≡ true
  answers : list_all (λ (said : List AstSaid). nat_le (length said) ANSWERS) v.answers ≡ true

uses_known : (S : List (List ℕ)) (us : List Use) (is : List ValId) → AllZip (UseMeans S) us is → AllByRecursion (Known S) (map (λ (u : Use). u.name) us)
uses_known S us is h = each_mapped (Known S) (λ (u : Use). u.name) us (zip_each (UseMeans S) (λ (u : Use). Known S u.name) (λ u i k. among_at S u.name i.0 k.here) us is h)

value_keeps : (words S : List (List ℕ)) (n m : ℕ) (a : AstValue) (v : Value) → ValueMeans words S a v → IsValue n m v → KeepsValue S a
value_keeps words S n m a v h k =
    let ids : v.next ≡ map (value_id S) a.next = zip_map (UseMeans S) (value_id S) (λ u i e. ap (λ (j : ℕ). let w : ValId = record { 0 = j } in w) (number_is S u.name i.0 e)) a.next v.next h.next in
    record {
      once = next_not_again S a.next (subst AreDifferent ids k.next_differ);
      known = uses_known S a.next v.next h.next;
      lasting = subst (AllByRecursion (λ r. is_no_duration r ≡ false)) (sym h.lasts) (durations_ordered v.lasts k.lasts, tt);
      steps = few_test (length a.script) SCRIPT_STEPS (subst (λ n. n ≤ SCRIPT_STEPS) (zip_length _ a.script v.script h.script) k.few_steps);
      clauses = few_test (length a.answers) ANSWER_CLAUSES (subst (λ n. n ≤ ANSWER_CLAUSES) (zip_length _ a.answers v.answers h.answers) k.few_clauses);
      answers = passes_each (λ (said : List AstSaid). nat_le (length said) ANSWERS) a.answers
          (zip_back _ (λ (said : List Said). length said ≤ ANSWERS) (λ (said : List AstSaid). nat_le (length said) ANSWERS ≡ true) (λ (x : List AstSaid) (y : List Said) z q. few_test (length x) ANSWERS (subst (λ n. n ≤ ANSWERS) (zip_length _ x y z) q)) a.answers v.answers h.answers k.few_answers);
    }

-- variables

record KeepsVar (var : AstVar) : Type 0 where
  differ : AreDifferent (value_names var)
  values : AllByRecursion (KeepsValue (value_names var)) var.values
  begin : AllByRecursion (Known (value_names var)) (begin_names var)
  begins : lacks_begin var ≡ false
  count : from_one_to VALUES (length var.values) ≡ true

var_keeps : (words : List (List ℕ)) (n : ℕ) (a : AstVar) (v : Var) → VarMeans words a v → IsVar n v → KeepsVar a
var_keeps words n a v h k =
    let same : map (λ (w : Value). w.name) v.values ≡ value_names a = zip_images (ValueMeans words (value_names a)) (λ (w : AstValue). w.name) (λ (w : Value). w.name) (λ x y z. z.name) a.values v.values h.values in
    let count : length v.values ≡ length a.values = zip_length (ValueMeans words (value_names a)) a.values v.values h.values in
    let known : Known (value_names a) h.first.name = among_at (value_names a) h.first.name v.begin.0 h.begin.here in
    record {
      differ = subst AreDifferent same k.values_differ;
      values = zip_back (ValueMeans words (value_names a)) (IsValue n (length v.values)) (KeepsValue (value_names a)) (value_keeps words (value_names a) n (length v.values)) a.values v.values h.values k.values;
      begin = rw h.written (known, tt);
      begins = rw h.written refl;
      count = some_few_test VALUES (length a.values) (subst (λ n. 0 < n) count k.some_values) (subst (λ n. n ≤ VALUES) count k.few_values);
    }

var_once : (var : AstVar) → KeepsVar var → join_after value_again [] var.values ≡ []
var_once var h =
    none_after value_again [] var.values
    (after_weaker (λ before (v : AstValue). (again (map (λ (w : AstValue). w.name) before) v.name ≡ []) × (names_again (next_names v) ≡ [])) (λ before v. value_again before v ≡ []) (λ before v k. none_joined (again (map (λ (w : AstValue). w.name) before) v.name) (names_again (next_names v)) k.0 k.1) [] var.values
    (EachAfter-both (λ before (v : AstValue). again (map (λ (w : AstValue). w.name) before) v.name ≡ []) (λ before v. names_again (next_names v) ≡ []) [] var.values
    (after_unmapped (λ before (v : AstValue). again (map (λ (w : AstValue). w.name) before) v.name ≡ []) (λ b n. again b n ≡ []) (λ (v : AstValue). v.name) (λ b v k. k) [] var.values (not_again [] (value_names var) h.differ))
    (each_after (λ v. names_again (next_names v) ≡ []) [] var.values (each_weaker (KeepsValue (value_names var)) (λ v. names_again (next_names v) ≡ []) (λ v k. k.once) var.values h.values))))

var_known : (var : AstVar) → KeepsVar var → unknown_in_var var ≡ []
var_known var h =
    none_unknown (value_names var) (flat_map next_names var.values ++ begin_names var)
    (each_both (Known (value_names var)) (flat_map next_names var.values) (begin_names var)
    (part_each (Known (value_names var)) next_names var.values (each_weaker (KeepsValue (value_names var)) (λ v. AllByRecursion (Known (value_names var)) (next_names v)) (λ v k. k.known) var.values h.values))
    h.begin)

-- needs

record KeepsNeed (vars : List AstVar) (n : AstNeed) : Type 0 where
  known : flat_map (unknown_in_kind vars) (kinds_of_need n) ≡ []
  ranges : AllByRecursion (λ r. is_exchanged r ≡ false) (flat_map (λ (c : AstChoice). ranges_of_relation c.relation) n.either)
  count : from_one_to CHOICES (length n.either) ≡ true
  other : asks_itself n ≡ false
  once : asks_twice n.either ≡ false

other_names : (vars : List AstVar) (a b : AstKind) (q r : Kind) → KindMeans vars a q → KindMeans vars b r → q.sv.0 ≢ r.sv.0 → bytes_eq a.sv b.sv ≡ false
other_names vars a b q r ha hb apart = names_apart a.sv b.sv (λ e.
    let i : q.sv.0 ≡ r.sv.0 = number_is (var_names vars) a.sv q.sv.0 ha.sv ∙ ap (number_of) (sym e) ∙ sym (number_is (var_names vars) b.sv r.sv.0 hb.sv) in
    apart i)
  where
    number_of : List ℕ → ℕ
    number_of name = number_in (var_names vars) name

need_keeps : (made : List Var) (vars : List AstVar) (a : AstNeed) (n : Need) → NeedMeans vars a n → IsNeed made n → KeepsNeed vars a
need_keeps made vars a n h k =
    let count : length n.either ≡ length a.either = zip_length (ChoiceMeans vars) a.either n.either h.either in
    let kinds : map (λ (c : Choice). c.by) n.either ≡ map (λ (c : AstChoice). kind_of vars c.by) a.either = zip_images (ChoiceMeans vars) (λ (c : AstChoice). kind_of vars c.by) (λ (c : Choice). c.by) (λ x y z. kind_is vars x.by y.by z.by) a.either n.either h.either in
    record {
      known = none_each (unknown_in_kind vars) (kinds_of_need a)
          (kind_known vars a.of n.of h.of, each_mapped (λ q. unknown_in_kind vars q ≡ []) (λ (c : AstChoice). c.by) a.either (zip_each (ChoiceMeans vars) (λ (c : AstChoice). unknown_in_kind vars c.by ≡ []) (λ x y z. kind_known vars x.by y.by z.by) a.either n.either h.either));
      ranges = part_each (λ r. is_exchanged r ≡ false) (λ (c : AstChoice). ranges_of_relation c.relation) a.either
          (zip_back (ChoiceMeans vars) (IsChoice made n.of) (λ (c : AstChoice). AllByRecursion (λ r. is_exchanged r ≡ false) (ranges_of_relation c.relation)) (λ x y z q. relation_ordered x.relation (subst HasRanges z.relation q.ranges)) a.either n.either h.either k.choices);
      count = some_few_test CHOICES (length a.either) (subst (λ m. 0 < m) count k.some_choices) (subst (λ m. m ≤ CHOICES) count k.few_choices);
      other = fails_each (λ (c : AstChoice). bytes_eq c.by.sv a.of.sv) a.either
          (zip_back (ChoiceMeans vars) (IsChoice made n.of) (λ (c : AstChoice). bytes_eq c.by.sv a.of.sv ≡ false) (λ x y z q. other_names vars x.by a.of y.by n.of z.by h.of q.other_variable) a.either n.either h.either k.choices);
      once = different_choices vars a.either (subst AreDifferent kinds k.kinds_differ);
    }

-- horizons

record KeepsHorizon (vars : List AstVar) (h : AstHorizon) : Type 0 where
  known : AllByRecursion (λ q. unknown_in_kind vars q ≡ []) (map (λ (g : AstGoal). g.kind) h.goals)
  ranges : AllByRecursion (λ r. is_exchanged r ≡ false) (flat_map ranges_of_goal h.goals)
  tick : (int_le (pos 1) h.tick && int_le h.tick LAST_HORIZON) ≡ true
  count : nat_le (length h.goals) GOALS ≡ true

le_test : (x y : ℤ) → x ≤ℤ y → int_le x y ≡ true
le_test x y h = grind (arith, ints)

horizon_keeps : (made : List Var) (vars : List AstVar) (a : AstHorizon) (h : Horizon) → HorizonMeans vars a h → IsHorizon made h → KeepsHorizon vars a
horizon_keeps made vars a h m k = record {
  known = each_mapped (λ q. unknown_in_kind vars q ≡ []) (λ (g : AstGoal). g.kind) a.goals (zip_each (GoalMeans vars) (λ (g : AstGoal). unknown_in_kind vars g.kind ≡ []) (λ x y z. kind_known vars x.kind y.kind z.kind) a.goals h.goals m.goals);
  ranges = part_each (λ r. is_exchanged r ≡ false) ranges_of_goal a.goals
      (zip_back (GoalMeans vars) (IsGoal made) (λ g. AllByRecursion (λ r. is_exchanged r ≡ false) (ranges_of_goal g))
      (λ x y z q. each_kept (λ r. is_exchanged r ≡ false) (λ r. not (is_whole r)) (x.start ∷ x.stop ∷ []) (times_ordered x.start (subst (IsRange (pos 0)) z.start q.start), (times_ordered x.stop (subst (IsRange (pos 0)) z.stop q.stop), tt))) a.goals h.goals m.goals k.goals);
  tick =
      let low : int_le (pos 1) a.tick ≡ true = le_test (pos 1) a.tick (subst (λ z. pos 1 ≤ℤ z) m.tick k.tick.0) in
      rw low (le_test a.tick LAST_HORIZON (subst (λ z. z ≤ℤ LAST_HORIZON) m.tick k.tick.1));
  count = few_test (length a.goals) GOALS (subst (λ n. n ≤ GOALS) (zip_length (GoalMeans vars) a.goals h.goals m.goals) k.few_goals);
}

-- the mission

all_kept : (ls : List (ℕ × Bool)) → AllByRecursion (λ (l : ℕ × Bool). l.1 ≡ true) ls → filter_map (λ (l : ℕ × Bool). cond l.1 None (Some l.0)) ls ≡ []
all_kept [] h = refl
all_kept (l ∷ ls) h = rw h.0 (all_kept ls h.1)

none_filtered_out : {X : Type 0} (p : X → Bool) (xs : List X) → AllByRecursion (λ x. p x ≡ false) xs → filter p xs ≡ []
none_filtered_out p [] h = refl
none_filtered_out p (x ∷ xs) h = rw h.0 (none_filtered_out p xs h.1)

pub kept : (a : Ast) (m : Mission) → Means a m → KeepsRules a
kept a m h =
    let vars = zip_back (VarMeans m.words) (IsVar (length m.words)) KeepsVar (var_keeps m.words (length m.words)) a.vars m.vars h.numbers.vars h.mission.vars in
    let needs = zip_back (NeedMeans a.vars) (IsNeed m.vars) (KeepsNeed a.vars) (need_keeps m.vars a.vars) a.needs m.needs h.numbers.needs h.mission.needs in
    let horizons = zip_back (HorizonMeans a.vars) (IsHorizon m.vars) (KeepsHorizon a.vars) (horizon_keeps m.vars a.vars) a.horizons m.horizons h.numbers.horizons h.mission.horizons in
    let vars_count : length m.vars ≡ length a.vars = zip_length (VarMeans m.words) a.vars m.vars h.numbers.vars in
    let needs_count : length m.needs ≡ length a.needs = zip_length (NeedMeans a.vars) a.needs m.needs h.numbers.needs in
    let horizons_count : length m.horizons ≡ length a.horizons = zip_length (HorizonMeans a.vars) a.horizons m.horizons h.numbers.horizons in
    let names : map (λ (v : Var). v.name) m.vars ≡ var_names a.vars = zip_images (VarMeans m.words) (λ (v : AstVar). v.name) (λ (v : Var). v.name) (λ x y z. z.name) a.vars m.vars h.numbers.vars in
    let ticks : map (λ (x : Horizon). x.tick) m.horizons ≡ map (λ (x : AstHorizon). x.tick) a.horizons = zip_images (HorizonMeans a.vars) (λ (x : AstHorizon). x.tick) (λ (x : Horizon). x.tick) (λ x y z. z.tick) a.horizons m.horizons h.numbers.horizons in
    let vars_few = some_few_test VARIABLES (length a.vars) (subst (λ n. 0 < n) vars_count h.mission.some_vars) (subst (λ n. n ≤ VARIABLES) vars_count h.mission.few_vars) in
    let values_few = passes_each (λ (var : AstVar). from_one_to VALUES (length var.values)) a.vars (each_weaker KeepsVar (λ (var : AstVar). from_one_to VALUES (length var.values) ≡ true) (λ var k. k.count) a.vars vars) in
    let needs_few = few_test (length a.needs) NEEDS (subst (λ n. n ≤ NEEDS) needs_count h.mission.few_needs) in
    let horizons_few = some_few_test HORIZONS (length a.horizons) (subst (λ n. 0 < n) horizons_count h.mission.some_horizons) (subst (λ n. n ≤ HORIZONS) horizons_count h.mission.few_horizons) in
    let ticks_few = passes_each (λ (h : AstHorizon). int_le (pos 1) h.tick && int_le h.tick LAST_HORIZON) a.horizons (each_weaker (KeepsHorizon a.vars) (λ (h : AstHorizon). (int_le (pos 1) h.tick && int_le h.tick LAST_HORIZON) ≡ true) (λ h k. k.tick) a.horizons horizons) in
    let goals_few = passes_each (λ (h : AstHorizon). nat_le (length h.goals) GOALS) a.horizons (each_weaker (KeepsHorizon a.vars) (λ (h : AstHorizon). nat_le (length h.goals) GOALS ≡ true) (λ h k. k.count) a.horizons horizons) in
    let steps_few = of_values (λ (v : AstValue). nat_le (length v.script) SCRIPT_STEPS) (λ S v k. k.steps) vars in
    let clauses_few = of_values (λ (v : AstValue). nat_le (length v.answers) ANSWER_CLAUSES) (λ S v k. k.clauses) vars in
    let answers_few = of_values (λ (v : AstValue). list_all (λ (said : List AstSaid). nat_le (length said) ANSWERS) v.answers) (λ S v k. k.answers) vars in
    let choices_few = passes_each (λ (n : AstNeed). from_one_to CHOICES (length n.either)) a.needs (each_weaker (KeepsNeed a.vars) (λ (n : AstNeed). from_one_to CHOICES (length n.either) ≡ true) (λ n k. k.count) a.needs needs) in
    record {
      twice = none_after var_again [] a.vars
          (after_weaker (λ before (var : AstVar). (again (var_names before) var.name ≡ []) × (join_after value_again [] var.values ≡ [])) (λ before var. var_again before var ≡ []) (λ before (var : AstVar) k. none_joined (again (var_names before) var.name) (join_after value_again [] var.values) k.0 k.1) [] a.vars
          (EachAfter-both (λ before (var : AstVar). again (var_names before) var.name ≡ []) (λ before (var : AstVar). join_after value_again [] var.values ≡ []) [] a.vars
          (after_unmapped (λ before (var : AstVar). again (var_names before) var.name ≡ []) (λ b n. again b n ≡ []) (λ (v : AstVar). v.name) (λ b v k. k) [] a.vars (not_again [] (var_names a.vars) (subst AreDifferent names h.mission.vars_differ)))
          (each_after (λ (var : AstVar). join_after value_again [] var.values ≡ []) [] a.vars (each_weaker KeepsVar (λ (var : AstVar). join_after value_again [] var.values ≡ []) var_once a.vars vars))));
      unknown = none_joined (flat_map unknown_in_var a.vars) (flat_map (unknown_in_kind a.vars) (kinds_of a))
          (none_each unknown_in_var a.vars (each_weaker KeepsVar (λ var. unknown_in_var var ≡ []) var_known a.vars vars))
          (none_each (unknown_in_kind a.vars) (kinds_of a)
          (each_both (λ q. unknown_in_kind a.vars q ≡ []) (flat_map kinds_of_need a.needs) (flat_map (λ (h : AstHorizon). map (λ (g : AstGoal). g.kind) h.goals) a.horizons)
          (part_each (λ q. unknown_in_kind a.vars q ≡ []) kinds_of_need a.needs (each_weaker (KeepsNeed a.vars) (λ n. AllByRecursion (λ q. unknown_in_kind a.vars q ≡ []) (kinds_of_need n)) (λ n k. each_none (unknown_in_kind a.vars) (kinds_of_need n) k.known) a.needs needs))
          (part_each (λ q. unknown_in_kind a.vars q ≡ []) (λ (h : AstHorizon). map (λ (g : AstGoal). g.kind) h.goals) a.horizons (each_weaker (KeepsHorizon a.vars) (λ (h : AstHorizon). AllByRecursion (λ q. unknown_in_kind a.vars q ≡ []) (map (λ (g : AstGoal). g.kind) h.goals)) (λ h k. k.known) a.horizons horizons))));
      ranges = placed_none (λ b. b) (map is_no_duration (durations a) ++ map is_exchanged (distances a))
          (each_both (λ b. b ≡ false) (map is_no_duration (durations a)) (map is_exchanged (distances a))
          (each_mapped (λ b. b ≡ false) is_no_duration (durations a)
          (part_each (λ r. is_no_duration r ≡ false) (λ (var : AstVar). flat_map (λ (v : AstValue). v.lasts) var.values) a.vars
          (each_weaker KeepsVar (λ (var : AstVar). AllByRecursion (λ r. is_no_duration r ≡ false) (flat_map (λ (v : AstValue). v.lasts) var.values)) (λ (var : AstVar) k. part_each (λ r. is_no_duration r ≡ false) (λ (v : AstValue). v.lasts) var.values (each_weaker (KeepsValue (value_names var)) (λ (v : AstValue). AllByRecursion (λ r. is_no_duration r ≡ false) v.lasts) (λ v q. q.lasting) var.values k.values)) a.vars vars)))
          (each_mapped (λ b. b ≡ false) is_exchanged (distances a)
          (each_both (λ r. is_exchanged r ≡ false) (flat_map (λ (n : AstNeed). flat_map (λ (c : AstChoice). ranges_of_relation c.relation) n.either) a.needs) (flat_map (λ (h : AstHorizon). flat_map ranges_of_goal h.goals) a.horizons)
          (part_each (λ r. is_exchanged r ≡ false) (λ (n : AstNeed). flat_map (λ (c : AstChoice). ranges_of_relation c.relation) n.either) a.needs (each_weaker (KeepsNeed a.vars) (λ (n : AstNeed). AllByRecursion (λ r. is_exchanged r ≡ false) (flat_map (λ (c : AstChoice). ranges_of_relation c.relation) n.either)) (λ n k. k.ranges) a.needs needs))
          (part_each (λ r. is_exchanged r ≡ false) (λ (h : AstHorizon). flat_map ranges_of_goal h.goals) a.horizons (each_weaker (KeepsHorizon a.vars) (λ (h : AstHorizon). AllByRecursion (λ r. is_exchanged r ≡ false) (flat_map ranges_of_goal h.goals)) (λ h k. k.ranges) a.horizons horizons)))));
      limits = all_kept (limits_kept a) (vars_few, (values_few, (needs_few, (horizons_few, (ticks_few, (goals_few, (steps_few, (clauses_few, (answers_few, (choices_few, tt))))))))));
      begins = ap var_names (none_filtered_out lacks_begin a.vars (each_weaker KeepsVar (λ var. lacks_begin var ≡ false) (λ var k. k.begins) a.vars vars));
      horizons = none_after (λ before h. cond (is_early before h) (length before ∷ []) []) [] a.horizons
          (after_weaker (λ before h. is_early before h ≡ false) (λ before h. cond (is_early before h) (length before ∷ []) [] ≡ []) (λ before h k. rw k refl) [] a.horizons
          (none_early a.horizons (rising_written ticks)));
      variables = placed_none asks_itself a.needs (each_weaker (KeepsNeed a.vars) (λ n. asks_itself n ≡ false) (λ n k. k.other) a.needs needs);
      choices = placed_none (λ (n : AstNeed). asks_twice n.either) a.needs (each_weaker (KeepsNeed a.vars) (λ (n : AstNeed). asks_twice n.either ≡ false) (λ n k. k.once) a.needs needs);
    }
  where
    of_values : (p : AstValue → Bool) → ((S : List (List ℕ)) (v : AstValue) → KeepsValue S v → p v ≡ true) → AllByRecursion KeepsVar a.vars → list_all p (all_values a) ≡ true
    of_values p f vars = passes_each p (all_values a) (part_each (λ v. p v ≡ true) (λ (var : AstVar). var.values) a.vars
        (each_weaker KeepsVar (λ (var : AstVar). AllByRecursion (λ v. p v ≡ true) var.values) (λ (var : AstVar) k. each_weaker (KeepsValue (value_names var)) (λ v. p v ≡ true) (f (value_names var)) var.values k.values) a.vars vars))

    rising_written : map (λ (x : Horizon). x.tick) m.horizons ≡ map (λ (x : AstHorizon). x.tick) a.horizons → IsInOrder (λ (a b : AstHorizon). a.tick <ℤ b.tick) a.horizons
    rising_written e =
        after_unmapped (λ before (h : AstHorizon). AllByRecursion (λ (x : AstHorizon). x.tick <ℤ h.tick) before) (λ before z. AllByRecursion (λ y. y <ℤ z) before) (λ (x : AstHorizon). x.tick)
        (λ before h k. each_unmapped (λ y. y <ℤ h.tick) (λ (x : AstHorizon). x.tick) before k) [] a.horizons
        (subst (λ zs. EachAfter (λ before z. AllByRecursion (λ y. y <ℤ z) before) [] zs) e
        (after_mapped (λ before (h : Horizon). AllByRecursion (λ (x : Horizon). x.tick <ℤ h.tick) before) (λ before z. AllByRecursion (λ y. y <ℤ z) before) (λ (x : Horizon). x.tick)
        (λ before h k. each_mapped (λ y. y <ℤ h.tick) (λ (x : Horizon). x.tick) before k) [] m.horizons h.mission.rising))
