-- What a plan's text writes means the plan, and keeps the rules on points.
use Rattle.std.proofs.Common.{◌≡◌, ◌≤◌, ℕ, zero, suc, ◌+◌, ◌<◌, Bool, true, false, not, ◌||◌, List, [], ◌∷◌, ◌++◌, length, map, filter, refl, sym, ap, ◌∙◌, subst, nat_eq, inl, inr, arith}
use Rattle.std.specs.Prelude.{Some, slice_get, nat_lt, nat_le, option_map}
use Rattle.std.specs.List.{AllByRecursion, AllZip, list_any}
use Rattle.std.specs.Str.{bytes_eq}
use Rattle.std.proofs.lemmas.Slice.Eq.{bytes_eq-Decides}
use Rattle.std.proofs.lemmas.Option.{slice_get_cases, slice_get_within, slice_get-map}
use Rattle.std.proofs.lemmas.Bool.{cases_Bool, cases_lt}
use Rattle.std.proofs.lemmas.Bool.Decides.{nat_tests}
use Rattle.hs_base.specs.declared.mission.Kind.{Kind}
use Rattle.hs_base.specs.declared.mission.Mission.{Mission}
use Rattle.hs_base.specs.declared.mission.Value.{Value}
use Rattle.hs_base.specs.declared.mission.Var.{Var}
use Rattle.hs_base.specs.declared.plan.TokenRef.{TokenRef}
use Rattle.hs_base.specs.declared.plan.Support.{Support}
use Rattle.hs_base.specs.declared.plan.Time.{Time}
use Rattle.hs_base.specs.declared.plan.Extension.{Extension}
use Rattle.hs_base.specs.Missions.{IsKindOf, IsMission, IsVar}
use Rattle.hs_texts.specs.MissionMeaning.{IsNumberOf}
use Rattle.hs_base.specs.Walks.{EachAfter, join_after, AreDifferent}
use Rattle.hs_base.specs.Points.{Point, origin, horizon, ending, same_point, count, points_of, new_points, tokens_of, timeline_of, refs_after}
use Rattle.hs_texts.specs.Written.{variable_name, value_name}
use Rattle.hs_texts.specs.declared.written.WrittenPoint.{WrittenPoint}
use Rattle.hs_texts.specs.declared.written.WrittenKind.{WrittenKind}
use Rattle.hs_texts.specs.PlanGrammar.{has_point as has_point_test, may_be_fixed, is_variable, token_names}
use Rattle.hs_texts.specs.PlanSpelling.{names_of, TokenMeans, KindMeans, PointMeans, TimeMeans, SupportMeans, ExtensionMeans, ExtensionsMean}
use Rattle.text_laws.specs.WritablePlans.{IsWritableToken, IsWritableSupport, written_token, written_point, written_at, written_time, written_kind, written_support, written_extension, written_extensions, written_plan}
use Rattle.base_laws.proofs.ListLemmas.{each_at, in_order}
use Rattle.base_laws.proofs.PointLemmas.{named, place_within}
use Rattle.text_laws.proofs.PlanPrintedLemmas.{has_variable, variable_is, HasValue, has_value, value_is, IsWritablePoint, HasPoint, written_at_is}

-- Names and numbers.

name_first : (names : List (List ℕ)) (name : List ℕ) (i j : ℕ) → AreDifferent names → slice_get names i ≡ Some name → slice_get names j ≡ Some name → i ≤ j
name_first names name i j d h k = elim (cases_lt j i) [
  | inl less ↦ absurd (in_order (λ a b. a ≡ b → ⊥) names j i name name d k h less refl)
  | inr most ↦ most
]

variable_number : (m : Mission) (v : ℕ) → IsMission m → v < length m.vars → IsNumberOf (names_of m) (variable_name m v) v
variable_number m v i h =
    let k = has_variable m v h in
    let here : slice_get (names_of m) v ≡ Some (variable_name m v) = slice_get-map (λ (w : Var). w.name) m.vars v ∙ ap (option_map (λ (w : Var). w.name)) k.there ∙ ap (λ (w : List ℕ). Some w) (sym (variable_is m v k.var k.there)) in
    record { here = here; first = λ j there. name_first (names_of m) (variable_name m v) v j i.vars_differ here there }

value_number : (m : Mission) (k : Kind) (i : IsMission m) (h : HasValue m k) → IsNumberOf (map (λ (v : Value). v.name) h.var.values) (value_name m k) k.value.0
value_number m k i h =
    let var = each_at (IsVar (length m.words)) m.vars k.sv.0 h.var i.vars h.there in
    let names = map (λ (v : Value). v.name) h.var.values in
    let here : slice_get names k.value.0 ≡ Some (value_name m k) = slice_get-map (λ (v : Value). v.name) h.var.values k.value.0 ∙ ap (option_map (λ (v : Value). v.name)) h.found ∙ ap (λ (w : List ℕ). Some w) (sym (value_is m k h.var h.value h.there h.found)) in
    record { here = here; first = λ j there. name_first names (value_name m k) k.value.0 j var.values_differ here there }

-- Meaning.

token_means : (m : Mission) (t : TokenRef) → IsMission m → IsWritableToken m t → TokenMeans m (written_token m t) t
token_means m t i h = record { sv = variable_number m t.sv.0 i h.known; place = refl }

kind_means : (m : Mission) (k : Kind) → IsMission m → IsKindOf m.vars k → KindMeans m (written_kind m k) k
kind_means m k i h =
    let v = has_value m k h in
    record { sv = variable_number m k.sv.0 i (slice_get_within m.vars k.sv.0 v.var v.there); var = v.var; there = v.there; value = value_number m k i v }

support_means : (m : Mission) (s : Support) → IsMission m → IsWritableSupport m s → SupportMeans m (written_support m s) s
support_means m s i h = record { token = token_means m s.token i h.token; need = refl; by = token_means m s.by i h.by }

point_means : (m : Mission) (before : List Extension) (p : ℕ) (point : Point) → IsMission m → IsWritablePoint m point → slice_get (points_of before) p ≡ Some point → PointMeans m before (written_point m point) p
point_means m before p origin i h there = sym ((named before).once p origin there)
point_means m before p (horizon k) i h there = sym ((named before).once p (horizon k) there)
point_means m before p (ending v j) i h there = (v, variable_number m v i h.0, sym ((named before).once p (ending v j) there))

time_means : (m : Mission) (before : List Extension) (t : Time) → IsMission m → HasPoint m (points_of before) t.point.0 → TimeMeans m before (written_time m (points_of before) t) t
time_means m before t i h =
    let value = written_at_is m (points_of before) t.point.0 h in
    record { point = subst (λ (w : WrittenPoint). PointMeans m before w t.point.0) (sym value) (point_means m before t.point.0 h.point i h.writable h.there); at = refl }

-- items one by one
pub zipped : {A B : Type 0} {P : A → Type 0} (R : B → A → Type 0) (g : A → B) → ((x : A) → P x → R (g x) x) → (xs : List A) → AllByRecursion P xs → AllZip R (map g xs) xs
zipped R g f [] h = tt
zipped R g f (x ∷ xs) h = (f x h.0, zipped R g f xs h.1)

-- The points of extensions.

-- no horizon has the number 0
no_zero_end : (ts : List TokenRef) → list_any (same_point (horizon 0)) (map (λ (t : TokenRef). ending t.sv.0 t.place) ts) ≡ false
no_zero_end [] = refl
no_zero_end (t ∷ ts) = no_zero_end ts

any_append : (test : Point → Bool) (a b : List Point) → list_any test a ≡ false → list_any test b ≡ false → list_any test (a ++ b) ≡ false
any_append test [] b h k = k
any_append test (p ∷ a) b h k =
    let here : test p ≡ false = grind arith in
    let later : list_any test a ≡ false = grind arith in
    rw (here, any_append test a b later k) refl

no_zero : (before es : List Extension) → list_any (same_point (horizon 0)) (join_after new_points before es) ≡ false
no_zero before [] = refl
no_zero before (e ∷ es) =
    let apart : nat_eq 0 (length before + 1) ≡ false = grind (arith, nat_tests) in
    let here : list_any (same_point (horizon 0)) (new_points before e) ≡ false = rw (apart, no_zero_end (refs_after (tokens_of before) e.tokens)) refl in
    any_append (same_point (horizon 0)) (new_points before e) (join_after new_points (before ++ e ∷ []) es) here (no_zero (before ++ e ∷ []) es)

none_at : (ps : List Point) (x : ℕ) → list_any (same_point (horizon 0)) ps ≡ false → slice_get ps x ≡ Some (horizon 0) → ⊥
none_at [] x h k = absurd cc
none_at (p ∷ ps) zero h k =
    let same : p ≡ horizon 0 = cc in
    let found : list_any (same_point (horizon 0)) (horizon 0 ∷ ps) ≡ false = subst (λ (q : Point). list_any (same_point (horizon 0)) (q ∷ ps) ≡ false) same h in
    absurd cc
none_at (p ∷ ps) (suc x) h k = let later : list_any (same_point (horizon 0)) ps ≡ false = grind arith in none_at ps x later k

horizon_some : (es : List Extension) (x k : ℕ) → slice_get (points_of es) x ≡ Some (horizon k) → 0 < k
horizon_some es x zero h = absurd (none_at (points_of es) x (no_zero [] es) h)
horizon_some es x (suc k) h = omega arith

horizon_few : (es : List Extension) (x k : ℕ) → slice_get (points_of es) x ≡ Some (horizon k) → k ≤ length es
horizon_few es x k h = elim (cases_lt (length es) k) [
  | inl more ↦ absurd (omega (arith, place_within (horizon k) (points_of es) x h, (named es).marks_new k more))
  | inr few ↦ few
]

ending_few : (es : List Extension) (x v i : ℕ) → slice_get (points_of es) x ≡ Some (ending v i) → i < length (timeline_of (tokens_of es) v)
ending_few es x v i h = elim (cases_lt i (length (timeline_of (tokens_of es) v))) [
  | inl few ↦ few
  | inr more ↦ absurd (omega (arith, place_within (ending v i) (points_of es) x h, (named es).ends_new v i more))
]

timeline_few : (ts : List Kind) (v : ℕ) → length (timeline_of ts v) ≤ length ts
timeline_few [] v = omega arith
timeline_few (t ∷ ts) v = elim (cases_Bool (nat_eq t.sv.0 v)) [
  | inl e ↦ rw e (omega (arith, timeline_few ts v))
  | inr e ↦ rw e (omega (arith, timeline_few ts v))
]

-- the variables of tokens are known
abbrev pub IsKnown : Mission → Kind → Type 0
IsKnown m k = k.sv.0 < length m.vars

timeline_known : (m : Mission) (ts : List Kind) (v : ℕ) → AllByRecursion (IsKnown m) ts → 0 < length (timeline_of ts v) → v < length m.vars
timeline_known m [] v h some = absurd (omega arith)
timeline_known m (t ∷ ts) v h some = elim (cases_Bool (nat_eq t.sv.0 v)) [
  | inl e ↦ let same : t.sv.0 ≡ v = grind (arith, nat_tests) in subst (λ (w : ℕ). w < length m.vars) same h.0
  | inr e ↦ timeline_known m ts v h.1 (rw e at some)
]

-- the point of a number can be written
pub has_point : (m : Mission) (before : List Extension) (p : ℕ) → AllByRecursion (IsKnown m) (tokens_of before) → count before ≤ 1000000000 → length before + length (tokens_of before) ≤ 1000000000 → p < count before → HasPoint m (points_of before) p
has_point m before p known few sizes h = elim (slice_get_cases (points_of before) p).1 [
  | inl k ↦ record { point = k.0; there = k.2; writable = can_write k.0 k.2 }
  | inr k ↦ absurd (omega (arith, h, k.0))
] where
  can_write : (point : Point) → slice_get (points_of before) p ≡ Some point → IsWritablePoint m point
  can_write origin there = tt
  can_write (horizon k) there = omega (arith, sizes, horizon_few before p k there)
  can_write (ending v i) there =
      let below = ending_few before p v i there in
      (timeline_known m (tokens_of before) v known (omega (arith, below)), omega (arith, sizes, below, timeline_few (tokens_of before) v))

-- Rules.

-- as many tokens are of a variable's name as are of the variable
timeline_named : (m : Mission) (ts : List Kind) (v : ℕ) → length (timeline_of ts v) ≤ length (filter (bytes_eq (variable_name m v)) (map (λ (k : Kind). variable_name m k.sv.0) ts))
timeline_named m [] v = omega arith
timeline_named m (t ∷ ts) v = elim (cases_Bool (nat_eq t.sv.0 v)) [
  | inl e ↦
      let same : t.sv.0 ≡ v = grind (arith, nat_tests) in
      let found : bytes_eq (variable_name m v) (variable_name m t.sv.0) ≡ true = (bytes_eq-Decides (variable_name m v) (variable_name m t.sv.0)).1 (ap (variable_name m) (sym same)) in
      rw (e, found) (omega (arith, timeline_named m ts v))
  | inr e ↦ rw e (kept (bytes_eq (variable_name m v)) (variable_name m t.sv.0) (map (λ (k : Kind). variable_name m k.sv.0) ts) (length (timeline_of ts v)) (timeline_named m ts v))
] where
  kept : (test : List ℕ → Bool) (x : List ℕ) (xs : List (List ℕ)) (n : ℕ) → n ≤ length (filter test xs) → n ≤ length (filter test (x ∷ xs))
  kept test x xs n h = elim (cases_Bool (test x)) [
    | inl e ↦ rw e (omega (arith, h))
    | inr e ↦ rw e h
  ]

either_true : (a b : Bool) → b ≡ true → (a || b) ≡ true
either_true true b h = refl
either_true false b h = h

map_append : {A B : Type 0} (f : A → B) (xs ys : List A) → map f (xs ++ ys) ≡ map f xs ++ map f ys
map_append f [] ys = refl
map_append f (x ∷ xs) ys = ap (λ (zs : List _). f x ∷ zs) (map_append f xs ys)

map_twice : (m : Mission) (ts : List Kind) → map (λ (k : WrittenKind). k.sv) (map (written_kind m) ts) ≡ map (λ (k : Kind). variable_name m k.sv.0) ts
map_twice m [] = refl
map_twice m (t ∷ ts) = ap (λ (zs : List (List ℕ)). variable_name m t.sv.0 ∷ zs) (map_twice m ts)

-- the variables of the written plan's tokens are those of the plan's
token_names_written : (m : Mission) (before es : List Extension) → token_names (written_extensions m before es) ≡ map (λ (k : Kind). variable_name m k.sv.0) (tokens_of es)
token_names_written m before [] = refl
token_names_written m before (e ∷ es) =
    let name = λ (k : Kind). variable_name m k.sv.0 in
    let later = written_extensions m (before ++ e ∷ []) es in
    ap (λ (names : List (List ℕ)). names ++ token_names later) (map_twice m e.tokens)
    ∙ ap (λ (names : List (List ℕ)). map name e.tokens ++ names) (token_names_written m (before ++ e ∷ []) es)
    ∙ sym (map_append name e.tokens (tokens_of es))

length_written : (m : Mission) (before es : List Extension) → length (written_extensions m before es) ≡ length es
length_written m before [] = refl
length_written m before (e ∷ es) = ap (λ (n : ℕ). suc n) (length_written m (before ++ e ∷ []) es)

-- the written plan has the plan's points
pub point_had : (m : Mission) (before : List Extension) (p : ℕ) (point : Point) → slice_get (points_of before) p ≡ Some point → has_point_test m (written_plan m before) (written_point m point) ≡ true
point_had m before p origin there = refl
point_had m before p (horizon k) there =
    let few : k ≤ length (written_plan m before) = omega (arith, horizon_few before p k there, length_written m [] before) in
    let low : nat_le 1 k ≡ true = grind (arith, nat_tests, horizon_some before p k there) in
    let high : nat_le k (length (written_plan m before)) ≡ true = grind (arith, nat_tests) in
    rw (low, high) refl
point_had m before p (ending v i) there =
    let names = token_names (written_plan m before) in
    let counted = subst (λ (ns : List (List ℕ)). length (timeline_of (tokens_of before) v) ≤ length (filter (bytes_eq (variable_name m v)) ns)) (sym (token_names_written m [] before)) (timeline_named m (tokens_of before) v) in
    let few : i < length (filter (bytes_eq (variable_name m v)) names) = omega (arith, ending_few before p v i there, counted) in
    let test : nat_lt i (length (filter (bytes_eq (variable_name m v)) names)) ≡ true = grind (arith, nat_tests) in
    either_true (not (is_variable m (variable_name m v))) _ test

-- the same by number
pub number_had : (m : Mission) (es : List Extension) (p : ℕ) → HasPoint m (points_of es) p → has_point_test m (written_plan m es) (written_at m (points_of es) p) ≡ true
number_had m es p h = ap (has_point_test m (written_plan m es)) (written_at_is m (points_of es) p h) ∙ point_had m es p h.point h.there

point_may_be_fixed : (m : Mission) (before : List Extension) (p : ℕ) (point : Point) → 0 < p → slice_get (points_of before) p ≡ Some point → may_be_fixed m (written_plan m before) (written_point m point) ≡ true
point_may_be_fixed m before p origin some there = absurd (omega (arith, some, (named before).once p origin there))
point_may_be_fixed m before p (horizon k) some there = point_had m before p (horizon k) there
point_may_be_fixed m before p (ending v i) some there = point_had m before p (ending v i) there

-- all but the origin may be fixed
pub number_may_be_fixed : (m : Mission) (before : List Extension) (p : ℕ) → 0 < p → HasPoint m (points_of before) p → may_be_fixed m (written_plan m before) (written_at m (points_of before) p) ≡ true
number_may_be_fixed m before p some h = ap (may_be_fixed m (written_plan m before)) (written_at_is m (points_of before) p h) ∙ point_may_be_fixed m before p h.point some h.there

-- an extension all of whose names are known
pub record IsMeant (m : Mission) (before : List Extension) (e : Extension) : Type 0 where
  pub fixed : AllByRecursion (λ (t : Time). HasPoint m (points_of before) t.point.0) e.fixed
  pub tokens : AllByRecursion (IsKindOf m.vars) e.tokens
  pub supports : AllByRecursion (IsWritableSupport m) e.supports
  pub goals : AllByRecursion (IsWritableToken m) e.goals

pub extension_means : (m : Mission) (before : List Extension) (e : Extension) → IsMission m → IsMeant m before e → ExtensionMeans m before (written_extension m before e) e
extension_means m before e i h = record {
  base = refl;
  since = refl;
  fixed = zipped (TimeMeans m before) (written_time m (points_of before)) (λ t k. time_means m before t i k) e.fixed h.fixed;
  tokens = zipped (KindMeans m) (written_kind m) (λ k j. kind_means m k i j) e.tokens h.tokens;
  supports = zipped (SupportMeans m) (written_support m) (λ s k. support_means m s i k) e.supports h.supports;
  goals = zipped (TokenMeans m) (written_token m) (λ t k. token_means m t i k) e.goals h.goals;
}

pub extensions_mean : (m : Mission) (before es : List Extension) → IsMission m → EachAfter (IsMeant m) before es → ExtensionsMean m before (written_extensions m before es) es
extensions_mean m before [] i h = tt
extensions_mean m before (e ∷ es) i h = (extension_means m before e i h.0, extensions_mean m (before ++ e ∷ []) es i h.1)
