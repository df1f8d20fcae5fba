-- Names and their numbers.
use Rattle.std.proofs.Common.{◌≡◌, ℕ, zero, suc, ◌+◌, ◌<◌, ◌≤◌, true, false, cond, not, List, [], ◌∷◌, ◌++◌, length, map, get_or, Some, None, refl, sym, ap, subst, ◌∙◌, inl, inr, arith}
use Rattle.std.proofs.lemmas.Bool.{cases_Bool, ltb-false}
use Rattle.std.proofs.lemmas.List.{map-append}
use Rattle.std.proofs.lemmas.Option.{get_or_from_slice_get}
use Rattle.std.proofs.lemmas.List.Sums.{prefix_len-le-length}
use Rattle.indexmap.specs.IndexSet.{insert_key}
use Rattle.std.specs.Prelude.{slice_get, position, nat_lt}
use Rattle.std.specs.List.{list_any, position_or_len}
use Rattle.std.specs.Str.{bytes_eq}
use Rattle.std.specs.Cmp.Lexicographic.{bytes_decides}
use Rattle.std.specs.Borrow.{Bor}
use Rattle.hs_texts.specs.declared.ast.AstVar.{AstVar}
use Rattle.hs_texts.specs.MissionMeaning.{IsNumberOf, var_names, value_names}
use Rattle.hs_texts.specs.MissionRefusals.{is_among}
use Rattle.domain_check.specs.Numbering.{number_in, var_named}
use Rattle.domain_check.specs.Tables.{IsNamed}

-- the first of a list passes the test, or the place lies behind it
pub number_here : (name n : List ℕ) (names : List (List ℕ)) → bytes_eq name n ≡ true → number_in (n ∷ names) name ≡ 0
number_here name n names h = rw h refl

pub number_later : (name n : List ℕ) (names : List (List ℕ)) → bytes_eq name n ≡ false → number_in (n ∷ names) name ≡ suc (number_in names name)
number_later name n names h = rw h (omega arith)

-- a name that stands in a list has its number there
pub slice_get-number_in : (names : List (List ℕ)) (name : List ℕ) → is_among names name ≡ true → slice_get names (number_in names name) ≡ Some name
slice_get-number_in [] name h = absurd cc
slice_get-number_in (n ∷ names) name h = elim (cases_Bool (bytes_eq name n)) [
  | inl same ↦
      let e : name ≡ n = (bytes_decides name n).0 same in
      ap (slice_get (n ∷ names)) (number_here name n names same) ∙ ap Some (sym e)
  | inr other ↦
      let later : is_among names name ≡ true = rw other at h in
      ap (slice_get (n ∷ names)) (number_later name n names other) ∙ slice_get-number_in names name later
]

-- it stands no earlier
pub number_in-first : (names : List (List ℕ)) (name : List ℕ) (j : ℕ) → slice_get names j ≡ Some name → number_in names name ≤ j
number_in-first [] name j h = absurd cc
number_in-first (n ∷ names) name zero h =
    let e : n ≡ name = cc in
    let same : bytes_eq name n ≡ true = (bytes_decides name n).1 (sym e) in
    subst (λ k. k ≤ 0) (sym (number_here name n names same)) (omega arith)
number_in-first (n ∷ names) name (suc j) h =
    let k : number_in names name ≤ j = number_in-first names name j h in
    elim (cases_Bool (bytes_eq name n)) [
      | inl same ↦ subst (λ m. m ≤ suc j) (sym (number_here name n names same)) (omega arith)
      | inr other ↦ subst (λ m. m ≤ suc j) (sym (number_later name n names other)) (omega arith)
    ]

pub is_number : (names : List (List ℕ)) (name : List ℕ) → is_among names name ≡ true → IsNumberOf names name (number_in names name)
is_number names name h = record { here = slice_get-number_in names name h; first = number_in-first names name }

-- a name with a place stands in the list
pub among_at : (names : List (List ℕ)) (name : List ℕ) (j : ℕ) → slice_get names j ≡ Some name → is_among names name ≡ true
among_at [] name j h = absurd cc
among_at (n ∷ names) name zero h =
    let e : n ≡ name = cc in
    let k : bytes_eq name n ≡ true = (bytes_decides name n).1 (sym e) in
    rw k refl
among_at (n ∷ names) name (suc j) h = elim (cases_Bool (bytes_eq name n)) [
  | inl same ↦ rw same refl
  | inr other ↦ rw other (among_at names name j h)
]

-- a name has one number
pub number_is : (names : List (List ℕ)) (name : List ℕ) (i : ℕ) → IsNumberOf names name i → i ≡ number_in names name
number_is names name i h =
    let least : i ≤ number_in names name = h.first (number_in names name) (slice_get-number_in names name (among_at names name i h.here)) in
    let most : number_in names name ≤ i = number_in-first names name i h.here in
    omega arith

-- names of one number are one
pub same_number : (names : List (List ℕ)) (x y : List ℕ) → is_among names x ≡ true → is_among names y ≡ true → number_in names x ≡ number_in names y → x ≡ y
same_number names x y hx hy same =
    let at_x : slice_get names (number_in names x) ≡ Some x = slice_get-number_in names x hx in
    let at_y : slice_get names (number_in names y) ≡ Some y = slice_get-number_in names y hy in
    let at : slice_get names (number_in names x) ≡ Some y = ap (slice_get names) same ∙ at_y in
    cc

-- a number lies within the list
pub within : {X : Type 0} (xs : List X) (i : ℕ) (x : X) → slice_get xs i ≡ Some x → i < length xs
within [] i x h = absurd cc
within (y ∷ xs) zero x h = omega arith
within (y ∷ xs) (suc i) x h = let k : i < length xs = within xs i x h in omega arith

pub number_within : (names : List (List ℕ)) (name : List ℕ) → is_among names name ≡ true → number_in names name < length names
number_within names name h = within names (number_in names name) name (slice_get-number_in names name h)

-- the first variable of a name stands at the name's number
pub var_at : (vars : List AstVar) (name : List ℕ) → var_named vars name ≡ slice_get vars (number_in (var_names vars) name)
var_at [] name = refl
var_at (v ∷ vars) name = elim (cases_Bool (bytes_eq name v.name)) [
  | inl same ↦
      let here : slice_get (v ∷ vars) (number_in (var_names (v ∷ vars)) name) ≡ Some v = ap (slice_get (v ∷ vars)) (number_here name v.name (var_names vars) same) in
      let found : var_named (v ∷ vars) name ≡ Some v = rw same refl in
      found ∙ sym here
  | inr other ↦
      let later : slice_get (v ∷ vars) (number_in (var_names (v ∷ vars)) name) ≡ slice_get vars (number_in (var_names vars) name) = ap (slice_get (v ∷ vars)) (number_later name v.name (var_names vars) other) in
      let found : var_named (v ∷ vars) name ≡ var_named vars name = rw other refl in
      found ∙ var_at vars name ∙ sym later
]

-- what borrowed names hold, as a list of names
abbrev pub names_of_keys : List (Bor (List ℕ)) → List (List ℕ)
names_of_keys ks = map (λ (b : Bor (List ℕ)). b.now) ks

pub among_keys : (name : List ℕ) (ks : List (Bor (List ℕ))) → list_any (λ (k : Bor (List ℕ)). bytes_eq name k.now) ks ≡ is_among (names_of_keys ks) name
among_keys name [] = refl
among_keys name (k ∷ ks) = elim (cases_Bool (bytes_eq name k.now)) [
  | inl same ↦ rw same refl
  | inr other ↦ rw other (among_keys name ks)
]

pub number_keys : (name : List ℕ) (ks : List (Bor (List ℕ))) → position_or_len (λ (k : Bor (List ℕ)). bytes_eq name k.now) ks ≡ number_in (names_of_keys ks) name
number_keys name [] = refl
number_keys name (k ∷ ks) = ap (λ n. cond (not (bytes_eq name k.now)) (1 + n) 0) (number_keys name ks)

-- what a search finds is the number
pub found_number : (name : List ℕ) (ks : List (Bor (List ℕ))) (i : ℕ) → position (λ (k : Bor (List ℕ)). bytes_eq name k.now) ks ≡ Some i → i ≡ number_in (names_of_keys ks) name
found_number name ks i h =
    let n = position_or_len (λ (k : Bor (List ℕ)). bytes_eq name k.now) ks in
    elim (cases_Bool (nat_lt n (length ks))) [
      | inl less ↦
          let k : Some n ≡ Some i = rw less at h in
          let e : n ≡ i = cc in
          sym e ∙ number_keys name ks
      | inr not_less ↦ absurd (let k : None ≡ Some i = rw not_less at h in cc)
    ]

pub number_behind : (name : List ℕ) (ks : List (Bor (List ℕ))) → position (λ (k : Bor (List ℕ)). bytes_eq name k.now) ks ≡ None → length ks ≡ number_in (names_of_keys ks) name
number_behind name ks h =
    let n = position_or_len (λ (k : Bor (List ℕ)). bytes_eq name k.now) ks in
    elim (cases_Bool (nat_lt n (length ks))) [
      | inl less ↦ absurd (let k : Some n ≡ None = rw less at h in cc)
      | inr not_less ↦
          let low : length ks ≤ n = ltb-false n (length ks) not_less in
          let high : n ≤ length ks = prefix_len-le-length (λ (k : Bor (List ℕ)). not (bytes_eq name k.now)) ks in
          let e : length ks ≡ n = omega arith in
          e ∙ number_keys name ks
    ]

-- the names after an insertion
pub names_inserted : (ks : List (Bor (List ℕ))) (k : Bor (List ℕ)) → names_of_keys (insert_key (λ (x y : Bor (List ℕ)). bytes_eq x.now y.now) ks k) ≡ cond (is_among (names_of_keys ks) k.now) (names_of_keys ks) (names_of_keys ks ++ k.now ∷ [])
names_inserted ks k = elim (cases_Bool (is_among (names_of_keys ks) k.now)) [
  | inl again ↦
      let e : list_any (λ (y : Bor (List ℕ)). bytes_eq k.now y.now) ks ≡ true = among_keys k.now ks ∙ again in
      rw (again, e) refl
  | inr fresh ↦
      let e : list_any (λ (y : Bor (List ℕ)). bytes_eq k.now y.now) ks ≡ false = among_keys k.now ks ∙ fresh in
      rw (fresh, e) (map-append (λ (b : Bor (List ℕ)). b.now) ks (k ∷ []))
]

-- lists with the same images, at a place
pub get_or-same_images : {X Y Z : Type 0} (f : X → Z) (g : Y → Z) (xs : List X) (ys : List Y) (i : ℕ) (x : X) (y : Y) → map f xs ≡ map g ys → i < length ys → f (get_or xs i x) ≡ g (get_or ys i y)
get_or-same_images f g [] [] i x y e less = absurd (omega arith)
get_or-same_images f g [] (z ∷ ys) i x y e less = absurd cc
get_or-same_images f g (w ∷ xs) [] i x y e less = absurd (omega arith)
get_or-same_images f g (w ∷ xs) (z ∷ ys) zero x y e less = cc
get_or-same_images f g (w ∷ xs) (z ∷ ys) (suc i) x y e less = let k : map f xs ≡ map g ys = cc in get_or-same_images f g xs ys i x y k (omega arith)

-- the element at a place
pub element : {X : Type 0} (xs : List X) (i : ℕ) → i < length xs → (x : X) × (slice_get xs i ≡ Some x)
element [] i less = absurd (omega arith)
element (x ∷ xs) zero less = (x, refl)
element (x ∷ xs) (suc i) less = element xs i (omega arith)

no_element : {X : Type 0} (xs : List X) (i : ℕ) → length xs ≤ i → slice_get xs i ≡ None
no_element [] i h = refl
no_element (x ∷ xs) zero h = absurd (omega arith)
no_element (x ∷ xs) (suc i) h = no_element xs i (omega arith)

-- the names of the values of the variable at a name's number
pub named_within : (vars : List AstVar) (name : List ℕ) (names : List (List ℕ)) → number_in (var_names vars) name < length vars → ((var : AstVar) → names ≡ value_names (get_or vars (number_in (var_names vars) name) var)) → IsNamed vars name names
named_within vars name names less is =
    let at = element vars (number_in (var_names vars) name) less in
    record {
      var = at.0;
      here = var_at vars name ∙ at.1;
      values = is at.0 ∙ ap value_names (get_or_from_slice_get vars (number_in (var_names vars) name) at.0 at.0 at.1);
    }

pub named_beyond : (vars : List AstVar) (name : List ℕ) → length vars ≤ number_in (var_names vars) name → var_named vars name ≡ None
named_beyond vars name h = var_at vars name ∙ no_element vars (number_in (var_names vars) name) h
