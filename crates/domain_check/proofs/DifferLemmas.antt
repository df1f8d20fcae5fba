-- Names and kinds that are different, and their numbers.
use Rattle.std.proofs.Common.{◌≡◌, ◌≢◌, ℕ, true, false, Some, None, List, [], ◌∷◌, ◌++◌, map, refl, sym, ap, subst, ◌∙◌, inl, inr}
use Rattle.std.proofs.lemmas.Bool.{cases_Bool}
use Rattle.std.specs.Prelude.{slice_get, Option}
use Rattle.std.specs.List.{AllByRecursion, list_any}
use Rattle.std.specs.Str.{bytes_eq}
use Rattle.std.specs.Cmp.Lexicographic.{bytes_decides}
use Rattle.hs_base.specs.declared.mission.Kind.{Kind}
use Rattle.hs_texts.specs.declared.ast.AstVar.{AstVar}
use Rattle.hs_texts.specs.declared.ast.AstKind.{AstKind}
use Rattle.hs_texts.specs.declared.ast.AstChoice.{AstChoice}
use Rattle.hs_texts.specs.declared.ast.Use.{Use}
use Rattle.hs_base.specs.declared.ids.ValId.{ValId}
use Rattle.hs_base.specs.Walks.{EachAfter, AreDifferent}
use Rattle.hs_texts.specs.MissionMeaning.{KindMeans, var_names, value_names}
use Rattle.hs_texts.specs.MissionRefusals.{is_among, again, names_again, same_written_kind, asks_twice}
use Rattle.base_laws.proofs.ListLemmas.{each_weaker}
use Rattle.domain_check.specs.Numbering.{number_in, number_in_var, var_named, kind_of, value_id}
use Rattle.domain_check.proofs.EachLemmas.{none_chosen, after_none, none_after, each_fails, fails_each, different_unmapped, different_mapped}
use Rattle.domain_check.proofs.NumberLemmas.{same_number}

-- what holds of each after those before it, weaker
pub after_weaker : {X : Type 0} (P Q : List X → X → Type 0) → ((b : List X) (x : X) → P b x → Q b x) → (before xs : List X) → EachAfter P before xs → EachAfter Q before xs
after_weaker P Q f before [] h = tt
after_weaker P Q f before (x ∷ xs) h = (f before x h.0, after_weaker P Q f (before ++ x ∷ []) xs h.1)

-- what holds of each whatever stands before it
pub after_each : {X : Type 0} (P : X → Type 0) (before xs : List X) → EachAfter (λ b x. P x) before xs → AllByRecursion P xs
after_each P before [] h = tt
after_each P before (x ∷ xs) h = (h.0, after_each P (before ++ x ∷ []) xs h.1)

pub each_after : {X : Type 0} (P : X → Type 0) (before xs : List X) → AllByRecursion P xs → EachAfter (λ b x. P x) before xs
each_after P before [] h = tt
each_after P before (x ∷ xs) h = (h.0, each_after P (before ++ x ∷ []) xs h.1)

-- equal names, by the test

pub equal_names : (x y : List ℕ) → bytes_eq x y ≡ true → x ≡ y
equal_names x y h = (bytes_decides x y).0 h

pub other_names : (x y : List ℕ) → bytes_eq x y ≡ false → y ≢ x
other_names x y h e = let k : bytes_eq x y ≡ true = (bytes_decides x y).1 (sym e) in absurd (cc (h, k))

pub names_apart : (x y : List ℕ) → y ≢ x → bytes_eq x y ≡ false
names_apart x y h = elim (cases_Bool (bytes_eq x y)) [
  | inl same ↦ absurd (h (sym (equal_names x y same)))
  | inr other ↦ other
]

-- a name stands before another one exactly where the test finds it

again_apart : (before : List (List ℕ)) (n : List ℕ) → again before n ≡ [] → AllByRecursion (λ y. y ≢ n) before
again_apart before n h = each_weaker (λ y. bytes_eq n y ≡ false) (λ y. y ≢ n) (other_names n) before (each_fails (bytes_eq n) before (none_chosen (is_among before n) n h))

apart_again : (before : List (List ℕ)) (n : List ℕ) → AllByRecursion (λ y. y ≢ n) before → again before n ≡ []
apart_again before n h =
    let k : is_among before n ≡ false = fails_each (bytes_eq n) before (each_weaker (λ y. y ≢ n) (λ y. bytes_eq n y ≡ false) (names_apart n) before h) in
    rw k refl

pub none_again : (before names : List (List ℕ)) → EachAfter (λ b n. again b n ≡ []) before names → EachAfter (λ b n. AllByRecursion (λ y. y ≢ n) b) before names
none_again before names h = after_weaker (λ b n. again b n ≡ []) (λ b n. AllByRecursion (λ y. y ≢ n) b) again_apart before names h

pub not_again : (before names : List (List ℕ)) → EachAfter (λ b n. AllByRecursion (λ y. y ≢ n) b) before names → EachAfter (λ b n. again b n ≡ []) before names
not_again before names h = after_weaker (λ b n. AllByRecursion (λ y. y ≢ n) b) (λ b n. again b n ≡ []) apart_again before names h

-- the values that may follow are different exactly where their numbers are

value_ids : (S : List (List ℕ)) (us : List Use) → map (value_id S) us ≡ map (λ (n : List ℕ). let i : ValId = record { 0 = number_in S n } in i) (map (λ (u : Use). u.name) us)
value_ids S [] = refl
value_ids S (u ∷ us) = ap (λ is. value_id S u ∷ is) (value_ids S us)

pub next_different : (S : List (List ℕ)) (us : List Use) → AllByRecursion (λ n. is_among S n ≡ true) (map (λ (u : Use). u.name) us) → names_again (map (λ (u : Use). u.name) us) ≡ [] → AreDifferent (map (value_id S) us)
next_different S us known h =
    let names = map (λ (u : Use). u.name) us in
    subst AreDifferent (sym (value_ids S us))
    (different_mapped (λ n. is_among S n ≡ true) (λ (n : List ℕ). let i : ValId = record { 0 = number_in S n } in i)
    (λ x y kx ky e. same_number S x y kx ky (ap (λ (i : ValId). i.0) e)) [] names tt known
    (none_again [] names (after_none again [] names h)))

pub next_not_again : (S : List (List ℕ)) (us : List Use) → AreDifferent (map (value_id S) us) → names_again (map (λ (u : Use). u.name) us) ≡ []
next_not_again S us h =
    let names = map (λ (u : Use). u.name) us in
    none_after again [] names (not_again [] names (different_unmapped (λ (n : List ℕ). let i : ValId = record { 0 = number_in S n } in i) names (subst AreDifferent (value_ids S us) h)))

-- elements are different exactly where each is another than all behind it

pub apart_behind : {X : Type 0} (x : X) (before xs : List X) → EachAfter (λ b y. AllByRecursion (λ z. z ≢ y) b) (x ∷ before) xs → AllByRecursion (λ y. x ≢ y) xs × EachAfter (λ b y. AllByRecursion (λ z. z ≢ y) b) before xs
apart_behind x before [] h = (tt, tt)
apart_behind x before (y ∷ xs) h = let k = apart_behind x (before ++ y ∷ []) xs h.1 in ((h.0.0, k.0), (h.0.1, k.1))

pub behind_apart : {X : Type 0} (x : X) (before xs : List X) → AllByRecursion (λ y. x ≢ y) xs → EachAfter (λ b y. AllByRecursion (λ z. z ≢ y) b) before xs → EachAfter (λ b y. AllByRecursion (λ z. z ≢ y) b) (x ∷ before) xs
behind_apart x before [] h k = tt
behind_apart x before (y ∷ xs) h k = ((h.0, k.0), behind_apart x (before ++ y ∷ []) xs h.1 k.1)

-- kinds are one exactly where they are written by the same names

same_written : (a b : AstKind) → same_written_kind a b ≡ true → (a.sv ≡ b.sv) × (a.value.name ≡ b.value.name)
same_written a b h = elim (cases_Bool (bytes_eq a.sv b.sv)) [
  | inl same ↦
      let k : bytes_eq a.value.name b.value.name ≡ true = rw same at h in
      (equal_names a.sv b.sv same, equal_names a.value.name b.value.name k)
  | inr other ↦ absurd (let k : false ≡ true = rw other at h in cc)
]

written_same : (a b : AstKind) → a.sv ≡ b.sv → a.value.name ≡ b.value.name → same_written_kind a b ≡ true
written_same a b h k =
    let hs : bytes_eq a.sv b.sv ≡ true = (bytes_decides a.sv b.sv).1 h in
    let ks : bytes_eq a.value.name b.value.name ≡ true = (bytes_decides a.value.name b.value.name).1 k in
    rw hs ks

-- known kinds of one number are written by the same names
pub same_kinds : (vars : List AstVar) (a b : AstKind) → KindMeans vars a (kind_of vars a) → KindMeans vars b (kind_of vars b) → kind_of vars a ≡ kind_of vars b → same_written_kind a b ≡ true
same_kinds vars a b ha hb e =
    let sv : a.sv ≡ b.sv = same_place (var_names vars) (kind_of vars a).sv.0 (kind_of vars b).sv.0 a.sv b.sv ha.sv.here hb.sv.here (ap (λ (k : Kind). k.sv.0) e) in
    let place : slice_get vars (kind_of vars b).sv.0 ≡ Some ha.var = subst (λ (n : ℕ). slice_get vars n ≡ Some ha.var) (ap (λ (k : Kind). k.sv.0) e) ha.there in
    let var : ha.var ≡ hb.var = same_some (slice_get vars (kind_of vars b).sv.0) ha.var hb.var place hb.there in
    let here : slice_get (value_names hb.var) (kind_of vars a).value.0 ≡ Some a.value.name = subst (λ (v : AstVar). slice_get (value_names v) (kind_of vars a).value.0 ≡ Some a.value.name) var ha.value.here in
    written_same a b sv (same_place (value_names hb.var) (kind_of vars a).value.0 (kind_of vars b).value.0 a.value.name b.value.name here hb.value.here (ap (λ (k : Kind). k.value.0) e))
  where
    same_some : {X : Type 0} (o : Option X) (x y : X) → o ≡ Some x → o ≡ Some y → x ≡ y
    same_some o x y h k = cc

    same_place : (names : List (List ℕ)) (i j : ℕ) (x y : List ℕ) → slice_get names i ≡ Some x → slice_get names j ≡ Some y → i ≡ j → x ≡ y
    same_place names i j x y h k e = same_some (slice_get names j) x y (subst (λ n. slice_get names n ≡ Some x) e h) k

-- and have one number
pub written_kinds : (vars : List AstVar) (a b : AstKind) → same_written_kind a b ≡ true → kind_of vars a ≡ kind_of vars b
written_kinds vars a b h =
    let e = same_written a b h in
    let k : (a.sv ≡ b.sv) × (a.value.name ≡ b.value.name) = e in
    ap (λ (n : List ℕ). let r : Kind = record { sv = record { 0 = number_in (var_names vars) n }; value = number_in_var (var_named vars n) a.value } in r) k.0
    ∙ ap (λ (x : ValId). let r : Kind = record { sv = record { 0 = number_in (var_names vars) b.sv }; value = x } in r) (in_var (var_named vars b.sv) k.1)
  where
    in_var : (o : Option AstVar) → a.value.name ≡ b.value.name → number_in_var o a.value ≡ number_in_var o b.value
    in_var None e = refl
    in_var (Some var) e = ap (λ (n : List ℕ). let i : ValId = record { 0 = number_in (value_names var) n } in i) e

-- a need asks for different kinds exactly where no two choices are written the same

pub choices_different : (vars : List AstVar) (cs : List AstChoice) → AllByRecursion (λ (c : AstChoice). KindMeans vars c.by (kind_of vars c.by)) cs → asks_twice cs ≡ false → AreDifferent (map (λ (c : AstChoice). kind_of vars c.by) cs)
choices_different vars [] known h = tt
choices_different vars (c ∷ cs) known h = elim (cases_Bool (list_any (λ (d : AstChoice). same_written_kind c.by d.by) cs)) [
  | inl twice ↦ absurd (let k : true ≡ false = rw twice at h in cc)
  | inr once ↦
      let rest : asks_twice cs ≡ false = rw once at h in
      (tt, behind_apart (kind_of vars c.by) [] (map (λ (d : AstChoice). kind_of vars d.by) cs) (others cs known.1 (each_fails (λ (d : AstChoice). same_written_kind c.by d.by) cs once)) (choices_different vars cs known.1 rest))
]
  where
    others : (ds : List AstChoice) → AllByRecursion (λ (d : AstChoice). KindMeans vars d.by (kind_of vars d.by)) ds → AllByRecursion (λ (d : AstChoice). same_written_kind c.by d.by ≡ false) ds → AllByRecursion (λ y. kind_of vars c.by ≢ y) (map (λ (d : AstChoice). kind_of vars d.by) ds)
    others [] k a = tt
    others (d ∷ ds) k a = ((λ e. let s : same_written_kind c.by d.by ≡ true = same_kinds vars c.by d.by known.0 k.0 e in absurd (cc (s, a.0))), others ds k.1 a.1)

pub different_choices : (vars : List AstVar) (cs : List AstChoice) → AreDifferent (map (λ (c : AstChoice). kind_of vars c.by) cs) → asks_twice cs ≡ false
different_choices vars [] h = refl
different_choices vars (c ∷ cs) h =
    let k = apart_behind (kind_of vars c.by) [] (map (λ (d : AstChoice). kind_of vars d.by) cs) h.1 in
    let once : list_any (λ (d : AstChoice). same_written_kind c.by d.by) cs ≡ false = fails_each (λ (d : AstChoice). same_written_kind c.by d.by) cs (others cs k.0) in
    rw once (different_choices vars cs k.1)
  where
    others : (ds : List AstChoice) → AllByRecursion (λ y. kind_of vars c.by ≢ y) (map (λ (d : AstChoice). kind_of vars d.by) ds) → AllByRecursion (λ (d : AstChoice). same_written_kind c.by d.by ≡ false) ds
    others [] k = tt
    others (d ∷ ds) k = (
      elim (cases_Bool (same_written_kind c.by d.by)) [
        | inl same ↦ absurd (k.0 (written_kinds vars c.by d.by same))
        | inr other ↦ other
      ],
      others ds k.1,
    )
