-- What a written mission means, where no name is unknown.
use Rattle.std.proofs.Common.{◌≡◌, ℕ, Bool, true, false, cond, List, [], ◌∷◌, ◌++◌, map, flat_map, Some, None, codes, refl, sym, ap, subst, ◌∙◌, inl, inr}
use Rattle.std.proofs.lemmas.Bool.{cases_Bool}
use Rattle.std.specs.Prelude.{slice_get, Option, filter}
use Rattle.std.specs.List.{AllByRecursion, AllZip}
use Rattle.std.specs.Str.{bytes_eq}
use Rattle.std.specs.Cmp.Lexicographic.{bytes_decides}
use Rattle.hs_base.specs.declared.mission.Kind.{Kind}
use Rattle.hs_base.specs.declared.ids.ValId.{ValId}
use Rattle.hs_base.specs.declared.range.Range.{Range}
use Rattle.hs_texts.specs.declared.ast.Ast.{Ast}
use Rattle.hs_texts.specs.declared.ast.AstChoice.{AstChoice}
use Rattle.hs_texts.specs.declared.ast.AstStep.TheVariants.{Do as AstDo, Until as AstUntil}
use Rattle.hs_texts.specs.declared.ast.AstGoal.{AstGoal}
use Rattle.hs_texts.specs.declared.ast.AstHorizon.{AstHorizon}
use Rattle.hs_texts.specs.declared.ast.AstKind.{AstKind}
use Rattle.hs_texts.specs.declared.ast.AstNeed.{AstNeed}
use Rattle.hs_texts.specs.declared.ast.AstSaid.{AstSaid}
use Rattle.hs_texts.specs.declared.ast.AstStep.{AstStep}
use Rattle.hs_texts.specs.declared.ast.AstValue.{AstValue}
use Rattle.hs_texts.specs.declared.ast.AstVar.{AstVar}
use Rattle.hs_texts.specs.declared.ast.Use.{Use}
use Rattle.hs_texts.specs.MissionMeaning.{IsNumberOf, var_names, value_names, step_word, words_of_value, words_of, word_table, first_seen, KindMeans, StepMeans, SaidMeans, UseMeans, ValueMeans, VarMeans, ChoiceMeans, NeedMeans, GoalMeans, HorizonMeans, Numbers}
use Rattle.hs_texts.specs.MissionRefusals.{is_among, next_names, begin_names, unknown_in, unknown_in_var, unknown_in_kind, kinds_of_need, kinds_of, unknown_names, lacks_begin, names_without_begin}
use Rattle.base_laws.proofs.ListLemmas.{each_split, each_both, each_weaker}
use Rattle.domain_check.specs.Numbering.{number_in, var_named, value_id, number_in_var, kind_of, step_of, said_of, range_of, value_of, begin_of, var_of, choice_of, need_of, goal_of, horizon_of, mission_of}
use Rattle.domain_check.proofs.EachLemmas.{each_unmapped, none_before, none_behind, none_left, none_mapped, each_none, none_each, map_zip}
use Rattle.domain_check.proofs.NumberLemmas.{is_number, number_is, among_at, var_at}

-- a name that is known
abbrev pub Known : List (List ℕ) → List ℕ → Type 0
Known names name = is_among names name ≡ true

known : (names : List (List ℕ)) (name : List ℕ) → unknown_in names name ≡ [] → Known names name
known names name h = none_left (is_among names name) name h

not_unknown : (names : List (List ℕ)) (name : List ℕ) → Known names name → unknown_in names name ≡ []
not_unknown names name h = rw h refl

all_known : (names found : List (List ℕ)) → flat_map (unknown_in names) found ≡ [] → AllByRecursion (Known names) found
all_known names found h = each_weaker (λ n. unknown_in names n ≡ []) (Known names) (known names) found (each_none (unknown_in names) found h)

pub none_unknown : (names found : List (List ℕ)) → AllByRecursion (Known names) found → flat_map (unknown_in names) found ≡ []
none_unknown names found h = none_each (unknown_in names) found (each_weaker (Known names) (λ n. unknown_in names n ≡ []) (not_unknown names) found h)

-- what holds of all parts of a list that is joined
pub each_part : {X Y : Type 0} (P : Y → Type 0) (f : X → List Y) (xs : List X) → AllByRecursion P (flat_map f xs) → AllByRecursion (λ x. AllByRecursion P (f x)) xs
each_part P f [] h = tt
each_part P f (x ∷ xs) h = let k = each_split P (f x) (flat_map f xs) h in (k.0, each_part P f xs k.1)

pub part_each : {X Y : Type 0} (P : Y → Type 0) (f : X → List Y) (xs : List X) → AllByRecursion (λ x. AllByRecursion P (f x)) xs → AllByRecursion P (flat_map f xs)
part_each P f [] h = tt
part_each P f (x ∷ xs) h = each_both P (f x) (flat_map f xs) h.0 (part_each P f xs h.1)

-- kinds

named_among : (vars : List AstVar) (name : List ℕ) (var : AstVar) → var_named vars name ≡ Some var → is_among (var_names vars) name ≡ true
named_among [] name var h = absurd cc
named_among (v ∷ vars) name var h = elim (cases_Bool (bytes_eq name v.name)) [
  | inl same ↦ rw same refl
  | inr other ↦ let k : var_named vars name ≡ Some var = rw other at h in rw other (named_among vars name var k)
]

pub kind_means : (vars : List AstVar) (k : AstKind) → unknown_in_kind vars k ≡ [] → KindMeans vars k (kind_of vars k)
kind_means vars k h = by_case (var_named vars k.sv) refl
  where
    by_case : (o : Option AstVar) → var_named vars k.sv ≡ o → KindMeans vars k (kind_of vars k)
    by_case None e = absurd (let n : k.sv ∷ [] ≡ [] = rw (e, unknown_in_kind) at h in cc)
    by_case (Some var) e =
        let u : unknown_in (value_names var) k.value.name ≡ [] = rw (e, unknown_in_kind) at h in
        record {
          sv = is_number (var_names vars) k.sv (named_among vars k.sv var e);
          var = var;
          there = sym (var_at vars k.sv) ∙ e;
          value = subst (λ (o : Option AstVar). IsNumberOf (value_names var) k.value.name (number_in_var o k.value).0) (sym e) (is_number (value_names var) k.value.name (known (value_names var) k.value.name u));
        }

kind_there : (vars : List AstVar) (k : AstKind) (q : Kind) (h : KindMeans vars k q) → var_named vars k.sv ≡ Some h.var
kind_there vars k q h = var_at vars k.sv ∙ ap (slice_get vars) (sym (number_is (var_names vars) k.sv q.sv.0 h.sv)) ∙ h.there

pub kind_known : (vars : List AstVar) (k : AstKind) (q : Kind) → KindMeans vars k q → unknown_in_kind vars k ≡ []
kind_known vars k q h = rw (kind_there vars k q h, unknown_in_kind) (not_unknown (value_names h.var) k.value.name (among_at (value_names h.var) k.value.name q.value.0 h.value.here))

pub kind_is : (vars : List AstVar) (k : AstKind) (q : Kind) → KindMeans vars k q → q ≡ kind_of vars k
kind_is vars k q h =
    let n : q.sv.0 ≡ number_in (var_names vars) k.sv = number_is (var_names vars) k.sv q.sv.0 h.sv in
    let v : q.value.0 ≡ number_in (value_names h.var) k.value.name = number_is (value_names h.var) k.value.name q.value.0 h.value in
    let value : q.value ≡ number_in_var (var_named vars k.sv) k.value =
    ap (λ (m : ℕ). let i : ValId = record { 0 = m } in i) v ∙ ap (λ (o : Option AstVar). number_in_var o k.value) (sym (kind_there vars k q h)) in
    ap (λ (m : ℕ). let r : Kind = record { sv = record { 0 = m }; value = q.value } in r) n
    ∙ ap (λ (x : ValId). let r : Kind = record { sv = record { 0 = number_in (var_names vars) k.sv }; value = x } in r) value

-- words

seen_stays : (seen ws : List (List ℕ)) (w : List ℕ) → Known seen w → Known (first_seen seen ws) w
seen_stays seen [] w h = h
seen_stays seen (v ∷ ws) w h = elim (cases_Bool (is_among seen v)) [
  | inl again ↦ rw again (seen_stays seen ws w h)
  | inr fresh ↦ rw fresh (seen_stays (seen ++ v ∷ []) ws w (in_front seen (v ∷ []) w h))
]
  where
    in_front : (xs ys : List (List ℕ)) (w : List ℕ) → Known xs w → Known (xs ++ ys) w
    in_front [] ys w h = absurd cc
    in_front (x ∷ xs) ys w h = elim (cases_Bool (bytes_eq w x)) [
      | inl same ↦ rw same refl
      | inr other ↦ rw other (in_front xs ys w (let k : Known xs w = rw other at h in k))
    ]

pub all_seen : (seen ws : List (List ℕ)) → AllByRecursion (Known (first_seen seen ws)) ws
all_seen seen [] = tt
all_seen seen (w ∷ ws) = elim (cases_Bool (is_among seen w)) [
  | inl again ↦
      let e = ap (λ (b : Bool). first_seen (cond b seen (seen ++ w ∷ [])) ws) again in
      subst (λ t. AllByRecursion (Known t) (w ∷ ws)) (sym e) (seen_stays seen ws w again, all_seen seen ws)
  | inr fresh ↦
      let e = ap (λ (b : Bool). first_seen (cond b seen (seen ++ w ∷ [])) ws) fresh in
      subst (λ t. AllByRecursion (Known t) (w ∷ ws)) (sym e) (seen_stays (seen ++ w ∷ []) ws w (at_end seen w), all_seen (seen ++ w ∷ []) ws)
]
  where
    at_end : (xs : List (List ℕ)) (w : List ℕ) → Known (xs ++ w ∷ []) w
    at_end [] w = let same : bytes_eq w w ≡ true = (bytes_decides w w).1 refl in rw same refl
    at_end (x ∷ xs) w = elim (cases_Bool (bytes_eq w x)) [
      | inl same ↦ rw same refl
      | inr other ↦ rw other (at_end xs w)
    ]

-- values

-- one range
abbrev pub HasOneRange : AstValue → Type 0
HasOneRange v = (r : Range) × (v.lasts ≡ r ∷ [])

-- what the numbering of a value takes
record IsNumberable (words siblings : List (List ℕ)) (v : AstValue) : Type 0 where
  next : AllByRecursion (Known siblings) (next_names v)
  said : AllByRecursion (Known words) (words_of_value v)
  lasts : HasOneRange v

step_means : (words : List (List ℕ)) (s : AstStep) → Known words (step_word s) → StepMeans words s (step_of words s)
step_means words (AstDo ordered amount) h = (is_number words ordered h, refl)
step_means words (AstUntil awaited) h = is_number words awaited h

said_means : (words : List (List ℕ)) (s : AstSaid) → Known words s.word → SaidMeans words s (said_of words s)
said_means words s h = record { delay = refl; said = is_number words s.word h }

all_said_means : (words : List (List ℕ)) (said : List AstSaid) → AllByRecursion (Known words) (map (λ (s : AstSaid). s.word) said) → AllZip (SaidMeans words) said (map (said_of words) said)
all_said_means words said h = map_zip (SaidMeans words) (said_of words) (λ s. Known words s.word) (said_means words) said (each_unmapped (Known words) (λ (s : AstSaid). s.word) said h)

value_means : (words siblings : List (List ℕ)) (v : AstValue) → IsNumberable words siblings v → ValueMeans words siblings v (value_of words siblings v)
value_means words siblings v h =
    let parts = each_split (Known words) (map step_word v.script) (flat_map (λ (said : List AstSaid). map (λ (s : AstSaid). s.word) said) v.answers) h.said in
    record {
      name = refl;
      lasts = h.lasts.1 ∙ ap (λ (r : Range). r ∷ []) (sym (ap range_of h.lasts.1));
      by_device = refl;
      next = map_zip (UseMeans siblings) (value_id siblings) (λ u. Known siblings u.name) (λ u k. is_number siblings u.name k) v.next (each_unmapped (Known siblings) (λ (u : Use). u.name) v.next h.next);
      script = map_zip (StepMeans words) (step_of words) (λ s. Known words (step_word s)) (step_means words) v.script (each_unmapped (Known words) step_word v.script parts.0);
      answers = map_zip (AllZip (SaidMeans words)) (map (said_of words)) (λ said. AllByRecursion (Known words) (map (λ (s : AstSaid). s.word) said)) (all_said_means words) v.answers (each_part (Known words) (λ (said : List AstSaid). map (λ (s : AstSaid). s.word) said) v.answers parts.1);
    }

all_named : (words siblings : List (List ℕ)) (vs : List AstValue) → AllByRecursion (λ v. AllByRecursion (Known siblings) (next_names v)) vs → AllByRecursion (λ v. AllByRecursion (Known words) (words_of_value v)) vs → AllByRecursion HasOneRange vs → AllByRecursion (IsNumberable words siblings) vs
all_named words siblings [] n s l = tt
all_named words siblings (v ∷ vs) n s l = (record { next = n.0; said = s.0; lasts = l.0 }, all_named words siblings vs n.1 s.1 l.1)

-- variables

-- what the numbering of a variable takes
record IsNamedVar (words : List (List ℕ)) (var : AstVar) : Type 0 where
  names : unknown_in_var var ≡ []
  begins : lacks_begin var ≡ false
  said : AllByRecursion (Known words) (flat_map words_of_value var.values)
  lasts : AllByRecursion HasOneRange var.values

var_means : (words : List (List ℕ)) (var : AstVar) → IsNamedVar words var → VarMeans words var (var_of words var)
var_means words var h = by_case var.begin refl
  where
    by_case : (o : Option Use) → var.begin ≡ o → VarMeans words var (var_of words var)
    by_case None e = absurd (let n : true ≡ false = rw e at h.begins in cc)
    by_case (Some u) e =
        let parts = each_split (Known (value_names var)) (flat_map next_names var.values) (begin_names var) (all_known (value_names var) (flat_map next_names var.values ++ begin_names var) h.names) in
        let begin : AllByRecursion (Known (value_names var)) (u.name ∷ []) = rw e at parts.1 in
        record {
          name = refl;
          values = map_zip (ValueMeans words (value_names var)) (value_of words (value_names var)) (IsNumberable words (value_names var)) (value_means words (value_names var)) var.values
              (all_named words (value_names var) var.values (each_part (Known (value_names var)) next_names var.values parts.0) (each_part (Known words) words_of_value var.values h.said) h.lasts);
          first = u;
          written = e;
          begin = subst (λ (o : Option Use). UseMeans (value_names var) u (begin_of (value_names var) o)) (sym e) (is_number (value_names var) u.name begin.0);
        }

-- needs and goals

choice_means : (vars : List AstVar) (c : AstChoice) → unknown_in_kind vars c.by ≡ [] → ChoiceMeans vars c (choice_of vars c)
choice_means vars c h = record { relation = refl; by = kind_means vars c.by h }

need_means : (vars : List AstVar) (n : AstNeed) → flat_map (unknown_in_kind vars) (kinds_of_need n) ≡ [] → NeedMeans vars n (need_of vars n)
need_means vars n h =
    let k = each_none (unknown_in_kind vars) (kinds_of_need n) h in
    record {
      of = kind_means vars n.of k.0;
      either = map_zip (ChoiceMeans vars) (choice_of vars) (λ c. unknown_in_kind vars c.by ≡ []) (choice_means vars) n.either (each_unmapped (λ q. unknown_in_kind vars q ≡ []) (λ (c : AstChoice). c.by) n.either k.1);
    }

goal_means : (vars : List AstVar) (g : AstGoal) → unknown_in_kind vars g.kind ≡ [] → GoalMeans vars g (goal_of vars g)
goal_means vars g h = record { kind = kind_means vars g.kind h; start = refl; stop = refl }

horizon_means : (vars : List AstVar) (h : AstHorizon) → AllByRecursion (λ q. unknown_in_kind vars q ≡ []) (map (λ (g : AstGoal). g.kind) h.goals) → HorizonMeans vars h (horizon_of vars h)
horizon_means vars h k = record {
  tick = refl;
  goals = map_zip (GoalMeans vars) (goal_of vars) (λ g. unknown_in_kind vars g.kind ≡ []) (goal_means vars) h.goals (each_unmapped (λ q. unknown_in_kind vars q ≡ []) (λ (g : AstGoal). g.kind) h.goals k);
}

-- a test that nothing passes
pub none_filtered : {X : Type 0} (p : X → Bool) (xs : List X) → filter p xs ≡ [] → AllByRecursion (λ x. p x ≡ false) xs
none_filtered p [] h = tt
none_filtered p (x ∷ xs) h = elim (cases_Bool (p x)) [
  | inl passes ↦ absurd (let k : x ∷ filter p xs ≡ [] = rw passes at h in cc)
  | inr fails ↦ (fails, none_filtered p xs (let k : filter p xs ≡ [] = rw fails at h in k))
]

all_named_vars : (words : List (List ℕ)) (vars : List AstVar) → AllByRecursion (λ var. unknown_in_var var ≡ []) vars → AllByRecursion (λ var. lacks_begin var ≡ false) vars → AllByRecursion (λ (var : AstVar). AllByRecursion (Known words) (flat_map words_of_value var.values)) vars → AllByRecursion (λ (var : AstVar). AllByRecursion HasOneRange var.values) vars → AllByRecursion (IsNamedVar words) vars
all_named_vars words [] n b s l = tt
all_named_vars words (v ∷ vs) n b s l = (record { names = n.0; begins = b.0; said = s.0; lasts = l.0 }, all_named_vars words vs n.1 b.1 s.1 l.1)

-- where no name is unknown and each variable begins, the numbers are those of the mission
pub numbered : (a : Ast) → unknown_names a ≡ [] → names_without_begin a ≡ [] → AllByRecursion (λ (var : AstVar). AllByRecursion HasOneRange var.values) a.vars → Numbers a (mission_of a)
numbered a unknown begins lasts =
    let in_vars = none_before (flat_map unknown_in_var a.vars) (flat_map (unknown_in_kind a.vars) (kinds_of a)) unknown in
    let in_kinds = each_none (unknown_in_kind a.vars) (kinds_of a) (none_behind (flat_map unknown_in_var a.vars) (flat_map (unknown_in_kind a.vars) (kinds_of a)) unknown) in
    let parts = each_split (λ q. unknown_in_kind a.vars q ≡ []) (flat_map kinds_of_need a.needs) (flat_map (λ (h : AstHorizon). map (λ (g : AstGoal). g.kind) h.goals) a.horizons) in_kinds in
    record {
      words = refl;
      vars = map_zip (VarMeans (word_table a)) (var_of (word_table a)) (IsNamedVar (word_table a)) (var_means (word_table a)) a.vars
          (all_named_vars (word_table a) a.vars (each_none unknown_in_var a.vars in_vars)
          (none_filtered lacks_begin a.vars (none_mapped (λ (v : AstVar). v.name) (filter lacks_begin a.vars) begins))
          (each_part (Known (word_table a)) (λ (var : AstVar). flat_map words_of_value var.values) a.vars (all_seen (codes "done" ∷ []) (words_of a)))
          lasts);
      needs = map_zip (NeedMeans a.vars) (need_of a.vars) (λ n. flat_map (unknown_in_kind a.vars) (kinds_of_need n) ≡ []) (need_means a.vars) a.needs
          (each_weaker (λ n. AllByRecursion (λ q. unknown_in_kind a.vars q ≡ []) (kinds_of_need n)) (λ n. flat_map (unknown_in_kind a.vars) (kinds_of_need n) ≡ []) (λ n. none_each (unknown_in_kind a.vars) (kinds_of_need n)) a.needs
          (each_part (λ q. unknown_in_kind a.vars q ≡ []) kinds_of_need a.needs parts.0));
      horizons = map_zip (HorizonMeans a.vars) (horizon_of a.vars) (λ (h : AstHorizon). AllByRecursion (λ q. unknown_in_kind a.vars q ≡ []) (map (λ (g : AstGoal). g.kind) h.goals)) (horizon_means a.vars) a.horizons
          (each_part (λ q. unknown_in_kind a.vars q ≡ []) (λ (h : AstHorizon). map (λ (g : AstGoal). g.kind) h.goals) a.horizons parts.1);
    }
