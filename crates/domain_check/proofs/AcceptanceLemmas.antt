-- Where no rule is broken, the numbered mission is what is meant.
use Rattle.std.proofs.Common.{◌≡◌, ℕ, ◌<◌, ◌≤◌, Bool, true, false, cond, ◌&&◌, List, [], ◌∷◌, ◌++◌, length, map, flat_map, Some, None, codes, pos, refl, sym, ap, subst, inl, inr}
use Rattle.std.proofs.lemmas.Bool.{cases_Bool}
use Rattle.std.proofs.lemmas.List.{length-map}
use Rattle.std.specs.Prelude.{◌<ℤ◌, nat_le, int_le, Option, filter, filter_map}
use Rattle.std.specs.List.{AllByRecursion, list_all}
use Rattle.std.specs.Str.{bytes_eq}
use Rattle.hs_base.specs.declared.limits.TheConstants.{VARIABLES, VALUES, NEEDS, CHOICES, HORIZONS, LAST_HORIZON, GOALS, SCRIPT_STEPS, ANSWER_CLAUSES, ANSWERS}
use Rattle.hs_base.specs.declared.mission.Horizon.{Horizon}
use Rattle.hs_base.specs.declared.mission.Var.{Var}
use Rattle.hs_texts.specs.declared.ast.Ast.{Ast}
use Rattle.hs_texts.specs.declared.ast.AstChoice.{AstChoice}
use Rattle.hs_texts.specs.declared.ast.AstGoal.{AstGoal}
use Rattle.hs_texts.specs.declared.ast.AstHorizon.{AstHorizon}
use Rattle.hs_texts.specs.declared.ast.AstKind.{AstKind}
use Rattle.hs_texts.specs.declared.ast.AstNeed.{AstNeed}
use Rattle.hs_texts.specs.declared.ast.AstSaid.{AstSaid}
use Rattle.hs_texts.specs.declared.ast.AstValue.{AstValue}
use Rattle.hs_texts.specs.declared.ast.AstVar.{AstVar}
use Rattle.hs_texts.specs.declared.ast.Use.{Use}
use Rattle.hs_base.specs.Walks.{join_after, AreDifferent}
use Rattle.hs_base.specs.Missions.{IsMission, IsNeed, IsVar, IsHorizon}
use Rattle.hs_texts.specs.MissionMeaning.{var_names, value_names, words_of_value, words_of, word_table, Means}
use Rattle.hs_texts.specs.MissionRefusals.{is_among, places, again, names_again, value_again, var_again, next_names, begin_names, unknown_in, unknown_in_var, unknown_in_kind, kinds_of_need, kinds_of, is_exchanged, is_no_duration, ranges_of_relation, ranges_of_goal, durations, distances, from_one_to, all_values, limits_kept, lacks_begin, is_early, asks_itself, asks_twice}
use Rattle.base_laws.proofs.ListLemmas.{each_split, each_weaker}
use Rattle.domain_check.specs.Numbering.{var_of, need_of, horizon_of, mission_of}
use Rattle.domain_check.specs.Rules.{KeepsRules}
use Rattle.text_laws.specs.Writable.{IsWritableValue, IsWritableVar, IsWritableChoice, IsWritableNeed, IsWritableGoal, IsWritableHorizon, IsWritable}
use Rattle.domain_check.proofs.EachLemmas.{none_before, none_behind, none_mapped, none_chosen, none_left, each_none, after_none, each_mapped, each_unmapped, after_mapped, each_passes, each_fails}
use Rattle.domain_check.proofs.MeaningLemmas.{HasOneRange, each_part, none_filtered, kind_means, numbered, all_seen}
use Rattle.domain_check.proofs.DifferLemmas.{after_weaker, after_each, none_again}
use Rattle.domain_check.proofs.AcceptedLemmas.{few, some_few, IsGoodValue, IsGoodVar, IsGoodChoice, IsGoodNeed, IsGoodGoal, IsGoodHorizon, var_in, need_in, horizon_in}
use Rattle.domain_check.proofs.RisingLemmas.{rising}
use Rattle.domain_check.proofs.WordLemmas.{table_named, table_different, table_first}

-- a test that nothing passes at any place
pub none_placed : {X : Type 0} (test : X → Bool) (xs : List X) → places test xs ≡ [] → AllByRecursion (λ x. test x ≡ false) xs
none_placed test xs h =
    after_each (λ x. test x ≡ false) [] xs
    (after_weaker (λ before x. cond (test x) (length before ∷ []) [] ≡ []) (λ before x. test x ≡ false) (λ before x k. none_chosen (test x) (length before) k) [] xs
    (after_none (λ before x. cond (test x) (length before ∷ []) []) [] xs h))

-- limits

kept_all : (ls : List (ℕ × Bool)) → filter_map (λ (l : ℕ × Bool). cond l.1 None (Some l.0)) ls ≡ [] → AllByRecursion (λ (l : ℕ × Bool). l.1 ≡ true) ls
kept_all [] h = tt
kept_all (l ∷ ls) h = elim (cases_Bool l.1) [
  | inl kept ↦ (kept, kept_all ls (let k : filter_map (λ (l : ℕ × Bool). cond l.1 None (Some l.0)) ls ≡ [] = rw kept at h in k))
  | inr passed ↦ absurd (let k : l.0 ∷ filter_map (λ (l : ℕ × Bool). cond l.1 None (Some l.0)) ls ≡ [] = rw passed at h in cc)
]

-- variables

record IsKept (words : List (List ℕ)) (var : AstVar) : Type 0 where
  writable : IsWritableVar var
  once : join_after value_again [] var.values ≡ []
  known : unknown_in_var var ≡ []
  begins : lacks_begin var ≡ false
  said : AllByRecursion (λ n. is_among words n ≡ true) (flat_map words_of_value var.values)
  durations : AllByRecursion (λ r. is_no_duration r ≡ false) (flat_map (λ (v : AstValue). v.lasts) var.values)
  count : from_one_to VALUES (length var.values) ≡ true
  steps : AllByRecursion (λ (v : AstValue). nat_le (length v.script) SCRIPT_STEPS ≡ true) var.values
  clauses : AllByRecursion (λ (v : AstValue). nat_le (length v.answers) ANSWER_CLAUSES ≡ true) var.values
  answers : AllByRecursion (λ (v : AstValue). list_all (λ (said : List AstSaid). nat_le (length said) ANSWERS) v.answers ≡ true) var.values

good_values : (words siblings : List (List ℕ)) (vs : List AstValue) → AllByRecursion IsWritableValue vs → AllByRecursion (λ v. AllByRecursion (λ n. is_among siblings n ≡ true) (next_names v)) vs → AllByRecursion (λ v. AllByRecursion (λ n. is_among words n ≡ true) (words_of_value v)) vs → AllByRecursion (λ v. names_again (next_names v) ≡ []) vs → AllByRecursion (λ (v : AstValue). AllByRecursion (λ r. is_no_duration r ≡ false) v.lasts) vs → AllByRecursion (λ (v : AstValue). nat_le (length v.script) SCRIPT_STEPS ≡ true) vs → AllByRecursion (λ (v : AstValue). nat_le (length v.answers) ANSWER_CLAUSES ≡ true) vs → AllByRecursion (λ (v : AstValue). list_all (λ (said : List AstSaid). nat_le (length said) ANSWERS) v.answers ≡ true) vs → AllByRecursion (IsGoodValue words siblings) vs
good_values words siblings [] w n s o d p c a = tt
good_values words siblings (v ∷ vs) w n s o d p c a = (
  record { writable = w.0; next = n.0; said = s.0; once = o.0; duration = d.0; few_steps = p.0; few_clauses = c.0; few_answers = a.0 },
  good_values words siblings vs w.1 n.1 s.1 o.1 d.1 p.1 c.1 a.1,
)

names_known : (S names : List (List ℕ)) → flat_map (unknown_in S) names ≡ [] → AllByRecursion (λ n. is_among S n ≡ true) names
names_known S names h = each_weaker (λ n. unknown_in S n ≡ []) (λ n. is_among S n ≡ true) (λ n k. none_left (is_among S n) n k) names (each_none (unknown_in S) names h)

good_var : (words : List (List ℕ)) (var : AstVar) → IsKept words var → IsGoodVar words var
good_var words var h = by_case var.begin refl
  where
    by_case : (o : Option Use) → var.begin ≡ o → IsGoodVar words var
    by_case None e = absurd (let n : true ≡ false = rw e at h.begins in cc)
    by_case (Some u) e =
        let names = each_split (λ n. is_among (value_names var) n ≡ true) (flat_map next_names var.values) (begin_names var) (names_known (value_names var) (flat_map next_names var.values ++ begin_names var) h.known) in
        let begin : AllByRecursion (λ n. is_among (value_names var) n ≡ true) (u.name ∷ []) = rw e at names.1 in
        let each = after_none value_again [] var.values h.once in
        record {
          name = h.writable.name;
          first = u;
          begins = e;
          begin = begin.0;
          count = h.count;
          differ = none_again [] (value_names var)
              (after_mapped (λ before (v : AstValue). again (map (λ (w : AstValue). w.name) before) v.name ≡ []) (λ b n. again b n ≡ []) (λ (v : AstValue). v.name) (λ b v k. k) [] var.values
              (after_weaker (λ before v. value_again before v ≡ []) (λ before (v : AstValue). again (map (λ (w : AstValue). w.name) before) v.name ≡ []) (λ b v k. none_before (again (map (λ (w : AstValue). w.name) b) v.name) (names_again (next_names v)) k) [] var.values each));
          values = good_values words (value_names var) var.values h.writable.values
              (each_part (λ n. is_among (value_names var) n ≡ true) next_names var.values names.0)
              (each_part (λ n. is_among words n ≡ true) words_of_value var.values h.said)
              (after_each (λ v. names_again (next_names v) ≡ []) [] var.values
              (after_weaker (λ before v. value_again before v ≡ []) (λ before v. names_again (next_names v) ≡ []) (λ b v k. none_behind (again (map (λ (w : AstValue). w.name) b) v.name) (names_again (next_names v)) k) [] var.values each))
              (each_part (λ r. is_no_duration r ≡ false) (λ (v : AstValue). v.lasts) var.values h.durations)
              h.steps h.clauses h.answers;
        }

good_vars : (words : List (List ℕ)) (vars : List AstVar) → AllByRecursion IsWritableVar vars → AllByRecursion (λ (var : AstVar). join_after value_again [] var.values ≡ []) vars → AllByRecursion (λ var. unknown_in_var var ≡ []) vars → AllByRecursion (λ var. lacks_begin var ≡ false) vars → AllByRecursion (λ (var : AstVar). AllByRecursion (λ n. is_among words n ≡ true) (flat_map words_of_value var.values)) vars → AllByRecursion (λ (var : AstVar). AllByRecursion (λ r. is_no_duration r ≡ false) (flat_map (λ (v : AstValue). v.lasts) var.values)) vars → AllByRecursion (λ (var : AstVar). from_one_to VALUES (length var.values) ≡ true) vars → AllByRecursion (λ (var : AstVar). AllByRecursion (λ (v : AstValue). nat_le (length v.script) SCRIPT_STEPS ≡ true) var.values) vars → AllByRecursion (λ (var : AstVar). AllByRecursion (λ (v : AstValue). nat_le (length v.answers) ANSWER_CLAUSES ≡ true) var.values) vars → AllByRecursion (λ (var : AstVar). AllByRecursion (λ (v : AstValue). list_all (λ (said : List AstSaid). nat_le (length said) ANSWERS) v.answers ≡ true) var.values) vars → AllByRecursion (IsGoodVar words) vars
good_vars words [] w o k b s d n p c a = tt
good_vars words (v ∷ vs) w o k b s d n p c a = (
  good_var words v (record { writable = w.0; once = o.0; known = k.0; begins = b.0; said = s.0; durations = d.0; count = n.0; steps = p.0; clauses = c.0; answers = a.0 }),
  good_vars words vs w.1 o.1 k.1 b.1 s.1 d.1 n.1 p.1 c.1 a.1,
)

vars_in : (words : List (List ℕ)) (vars : List AstVar) → AllByRecursion (IsGoodVar words) vars → AllByRecursion (IsVar (length words)) (map (var_of words) vars)
vars_in words [] h = tt
vars_in words (v ∷ vs) h = (var_in words v h.0, vars_in words vs h.1)

-- needs

good_choices : (vars : List AstVar) (of : AstKind) (cs : List AstChoice) → AllByRecursion IsWritableChoice cs → AllByRecursion (λ (c : AstChoice). unknown_in_kind vars c.by ≡ []) cs → AllByRecursion (λ (c : AstChoice). bytes_eq c.by.sv of.sv ≡ false) cs → AllByRecursion (λ (c : AstChoice). AllByRecursion (λ r. is_exchanged r ≡ false) (ranges_of_relation c.relation)) cs → AllByRecursion (IsGoodChoice vars of) cs
good_choices vars of [] w u o r = tt
good_choices vars of (c ∷ cs) w u o r = (record { limits = w.0.limits; means = kind_means vars c.by u.0; other = o.0; ordered = r.0 }, good_choices vars of cs w.1 u.1 o.1 r.1)

good_needs : (vars : List AstVar) (version : ℕ) (ns : List AstNeed) → AllByRecursion (IsWritableNeed version) ns → AllByRecursion (λ n. AllByRecursion (λ q. unknown_in_kind vars q ≡ []) (kinds_of_need n)) ns → AllByRecursion (λ (n : AstNeed). AllByRecursion (λ r. is_exchanged r ≡ false) (flat_map (λ (c : AstChoice). ranges_of_relation c.relation) n.either)) ns → AllByRecursion (λ (n : AstNeed). from_one_to CHOICES (length n.either) ≡ true) ns → AllByRecursion (λ n. asks_itself n ≡ false) ns → AllByRecursion (λ (n : AstNeed). asks_twice n.either ≡ false) ns → AllByRecursion (IsGoodNeed vars) ns
good_needs vars version [] w u r c s t = tt
good_needs vars version (n ∷ ns) w u r c s t = (
  record {
    means = kind_means vars n.of u.0.0;
    count = c.0;
    choices = good_choices vars n.of n.either w.0.choices (each_unmapped (λ q. unknown_in_kind vars q ≡ []) (λ (c : AstChoice). c.by) n.either u.0.1) (each_fails (λ (c : AstChoice). bytes_eq c.by.sv n.of.sv) n.either s.0) (each_part (λ r. is_exchanged r ≡ false) (λ (c : AstChoice). ranges_of_relation c.relation) n.either r.0);
    once = t.0;
  },
  good_needs vars version ns w.1 u.1 r.1 c.1 s.1 t.1,
)

needs_in : (words : List (List ℕ)) (vars : List AstVar) (ns : List AstNeed) → AllByRecursion (IsGoodNeed vars) ns → AllByRecursion (IsNeed (map (var_of words) vars)) (map (need_of vars) ns)
needs_in words vars [] h = tt
needs_in words vars (n ∷ ns) h = (need_in words vars n h.0, needs_in words vars ns h.1)

-- horizons

good_goals : (vars : List AstVar) (gs : List AstGoal) → AllByRecursion IsWritableGoal gs → AllByRecursion (λ q. unknown_in_kind vars q ≡ []) (map (λ (g : AstGoal). g.kind) gs) → AllByRecursion (λ r. is_exchanged r ≡ false) (flat_map ranges_of_goal gs) → AllByRecursion (IsGoodGoal vars) gs
good_goals vars [] w u r = tt
good_goals vars (g ∷ gs) w u r =
    let parts = each_split (λ r. is_exchanged r ≡ false) (ranges_of_goal g) (flat_map ranges_of_goal gs) r in
    (record { writable = w.0; means = kind_means vars g.kind u.0; ordered = parts.0 }, good_goals vars gs w.1 u.1 parts.1)

good_horizons : (vars : List AstVar) (hs : List AstHorizon) → AllByRecursion IsWritableHorizon hs → AllByRecursion (λ (h : AstHorizon). AllByRecursion (λ q. unknown_in_kind vars q ≡ []) (map (λ (g : AstGoal). g.kind) h.goals)) hs → AllByRecursion (λ (h : AstHorizon). AllByRecursion (λ r. is_exchanged r ≡ false) (flat_map ranges_of_goal h.goals)) hs → AllByRecursion (λ (h : AstHorizon). (int_le (pos 1) h.tick && int_le h.tick LAST_HORIZON) ≡ true) hs → AllByRecursion (λ (h : AstHorizon). nat_le (length h.goals) GOALS ≡ true) hs → AllByRecursion (IsGoodHorizon vars) hs
good_horizons vars [] w u r t c = tt
good_horizons vars (h ∷ hs) w u r t c = (record { tick = t.0; count = c.0; goals = good_goals vars h.goals w.0.goals u.0 r.0 }, good_horizons vars hs w.1 u.1 r.1 t.1 c.1)

horizons_in : (words : List (List ℕ)) (vars : List AstVar) (hs : List AstHorizon) → AllByRecursion (IsGoodHorizon vars) hs → AllByRecursion (IsHorizon (map (var_of words) vars)) (map (horizon_of vars) hs)
horizons_in words vars [] h = tt
horizons_in words vars (x ∷ hs) h = (horizon_in words vars x h.0, horizons_in words vars hs h.1)

-- the mission

one_range : (var : AstVar) → IsWritableVar var → AllByRecursion HasOneRange var.values
one_range var h = each_weaker IsWritableValue HasOneRange (λ v k. (k.lasts, k.only)) var.values h.values

var_names_made : (words : List (List ℕ)) (vars : List AstVar) → map (λ (v : Var). v.name) (map (var_of words) vars) ≡ var_names vars
var_names_made words [] = refl
var_names_made words (v ∷ vars) = ap (λ ns. v.name ∷ ns) (var_names_made words vars)

mission_in : (a : Ast) → IsWritable a → KeepsRules a → IsMission (mission_of a)
mission_in a w h =
    let limits = kept_all (limits_kept a) h.limits in
    let vars_count = some_few VARIABLES (length a.vars) limits.0 in
    let horizons_count = some_few HORIZONS (length a.horizons) limits.1.1.1.0 in
    let vars_made : length (map (var_of (word_table a)) a.vars) ≡ length a.vars = length-map a.vars (var_of (word_table a)) in
    let needs_made : length (map (need_of a.vars) a.needs) ≡ length a.needs = length-map a.needs (need_of a.vars) in
    let horizons_made : length (map (horizon_of a.vars) a.horizons) ≡ length a.horizons = length-map a.horizons (horizon_of a.vars) in
    let twice = after_none var_again [] a.vars h.twice in
    let flags = each_split (λ b. b ≡ false) (map is_no_duration (durations a)) (map is_exchanged (distances a)) (none_placed (λ b. b) (map is_no_duration (durations a) ++ map is_exchanged (distances a)) h.ranges) in
    let lasting = each_unmapped (λ b. b ≡ false) is_no_duration (durations a) flags.0 in
    let distant = each_split (λ r. is_exchanged r ≡ false) (flat_map (λ (n : AstNeed). flat_map (λ (c : AstChoice). ranges_of_relation c.relation) n.either) a.needs) (flat_map (λ (h : AstHorizon). flat_map ranges_of_goal h.goals) a.horizons)
    (each_unmapped (λ b. b ≡ false) is_exchanged (distances a) flags.1) in
    let unknown_vars = each_none unknown_in_var a.vars (none_before (flat_map unknown_in_var a.vars) (flat_map (unknown_in_kind a.vars) (kinds_of a)) h.unknown) in
    let kinds = each_split (λ q. unknown_in_kind a.vars q ≡ []) (flat_map kinds_of_need a.needs) (flat_map (λ (h : AstHorizon). map (λ (g : AstGoal). g.kind) h.goals) a.horizons)
    (each_none (unknown_in_kind a.vars) (kinds_of a) (none_behind (flat_map unknown_in_var a.vars) (flat_map (unknown_in_kind a.vars) (kinds_of a)) h.unknown)) in
    let vars = good_vars (word_table a) a.vars w.vars
    (after_each (λ (var : AstVar). join_after value_again [] var.values ≡ []) [] a.vars (after_weaker (λ before var. var_again before var ≡ []) (λ before (var : AstVar). join_after value_again [] var.values ≡ []) (λ b (var : AstVar) k. none_behind (again (var_names b) var.name) (join_after value_again [] var.values) k) [] a.vars twice))
    unknown_vars
    (none_filtered lacks_begin a.vars (none_mapped (λ (v : AstVar). v.name) (filter lacks_begin a.vars) h.begins))
    (each_part (λ n. is_among (word_table a) n ≡ true) (λ (var : AstVar). flat_map words_of_value var.values) a.vars (all_seen (codes "done" ∷ []) (words_of a)))
    (each_part (λ r. is_no_duration r ≡ false) (λ (var : AstVar). flat_map (λ (v : AstValue). v.lasts) var.values) a.vars lasting)
    (each_passes (λ (var : AstVar). from_one_to VALUES (length var.values)) a.vars limits.1.0)
    (each_part (λ (v : AstValue). nat_le (length v.script) SCRIPT_STEPS ≡ true) (λ (var : AstVar). var.values) a.vars (each_passes (λ (v : AstValue). nat_le (length v.script) SCRIPT_STEPS) (all_values a) limits.1.1.1.1.1.1.0))
    (each_part (λ (v : AstValue). nat_le (length v.answers) ANSWER_CLAUSES ≡ true) (λ (var : AstVar). var.values) a.vars (each_passes (λ (v : AstValue). nat_le (length v.answers) ANSWER_CLAUSES) (all_values a) limits.1.1.1.1.1.1.1.0))
    (each_part (λ (v : AstValue). list_all (λ (said : List AstSaid). nat_le (length said) ANSWERS) v.answers ≡ true) (λ (var : AstVar). var.values) a.vars (each_passes (λ (v : AstValue). list_all (λ (said : List AstSaid). nat_le (length said) ANSWERS) v.answers) (all_values a) limits.1.1.1.1.1.1.1.1.0)) in
    let needs = good_needs a.vars a.version a.needs w.needs
    (each_part (λ q. unknown_in_kind a.vars q ≡ []) kinds_of_need a.needs kinds.0)
    (each_part (λ r. is_exchanged r ≡ false) (λ (n : AstNeed). flat_map (λ (c : AstChoice). ranges_of_relation c.relation) n.either) a.needs distant.0)
    (each_passes (λ (n : AstNeed). from_one_to CHOICES (length n.either)) a.needs limits.1.1.1.1.1.1.1.1.1.0)
    (none_placed asks_itself a.needs h.variables)
    (none_placed (λ (n : AstNeed). asks_twice n.either) a.needs h.choices) in
    let horizons = good_horizons a.vars a.horizons w.horizons
    (each_part (λ q. unknown_in_kind a.vars q ≡ []) (λ (h : AstHorizon). map (λ (g : AstGoal). g.kind) h.goals) a.horizons kinds.1)
    (each_part (λ r. is_exchanged r ≡ false) (λ (h : AstHorizon). flat_map ranges_of_goal h.goals) a.horizons distant.1)
    (each_passes (λ (h : AstHorizon). int_le (pos 1) h.tick && int_le h.tick LAST_HORIZON) a.horizons limits.1.1.1.1.0)
    (each_passes (λ (h : AstHorizon). nat_le (length h.goals) GOALS) a.horizons limits.1.1.1.1.1.0) in
    record {
      some_vars = subst (λ n. 0 < n) (sym vars_made) vars_count.0;
      few_vars = subst (λ n. n ≤ VARIABLES) (sym vars_made) vars_count.1;
      vars_differ = subst AreDifferent (sym (var_names_made (word_table a) a.vars))
          (none_again [] (var_names a.vars)
          (after_mapped (λ before (var : AstVar). again (var_names before) var.name ≡ []) (λ b n. again b n ≡ []) (λ (v : AstVar). v.name) (λ b v k. k) [] a.vars
          (after_weaker (λ before var. var_again before var ≡ []) (λ before (var : AstVar). again (var_names before) var.name ≡ []) (λ b (var : AstVar) k. none_before (again (var_names b) var.name) (join_after value_again [] var.values) k) [] a.vars twice)));
      vars = vars_in (word_table a) a.vars vars;
      few_needs = subst (λ n. n ≤ NEEDS) (sym needs_made) (few (length a.needs) NEEDS limits.1.1.0);
      needs = needs_in (word_table a) a.vars a.needs needs;
      some_horizons = subst (λ n. 0 < n) (sym horizons_made) horizons_count.0;
      few_horizons = subst (λ n. n ≤ HORIZONS) (sym horizons_made) horizons_count.1;
      horizons = horizons_in (word_table a) a.vars a.horizons horizons;
      rising = after_mapped (λ before (h : AstHorizon). AllByRecursion (λ (x : AstHorizon). x.tick <ℤ h.tick) before) (λ before (h : Horizon). AllByRecursion (λ (x : Horizon). x.tick <ℤ h.tick) before) (horizon_of a.vars)
          (λ before h k. each_mapped (λ (x : Horizon). x.tick <ℤ h.tick) (horizon_of a.vars) before k) [] a.horizons
          (rising a.horizons (after_weaker (λ before h. cond (is_early before h) (length before ∷ []) [] ≡ []) (λ before h. is_early before h ≡ false) (λ before h k. none_chosen (is_early before h) (length before) k) [] a.horizons
          (after_none (λ before h. cond (is_early before h) (length before ∷ []) []) [] a.horizons h.horizons)));
      done_first = table_first a;
      words = table_named a w.vars;
      words_differ = table_different a;
    }

-- then the numbered mission is meant
pub meant : (a : Ast) → IsWritable a → KeepsRules a → Means a (mission_of a)
meant a w h = record {
  numbers = numbered a h.unknown h.begins (each_weaker IsWritableVar (λ (var : AstVar). AllByRecursion HasOneRange var.values) one_range a.vars w.vars);
  mission = mission_in a w h;
}
