-- Elements of lists, by some place.
use Rattle.std.proofs.Common.{◌≡◌, ℕ, zero, suc, ◌+◌, true, Bool, List, [], ◌∷◌, ◌++◌, length, filter, flat_map, map, Some, refl, sym, ap, ◌∙◌, subst, arith, inl, inr, ◌⊎◌}
use Rattle.std.proofs.lemmas.Bool.{cases_Bool}
use Rattle.std.proofs.lemmas.List.Elements.{Contains-get_or}
use Rattle.std.proofs.lemmas.Option.{get_or_from_slice_get, slice_get_within}
use Rattle.std.specs.List.{list_any}
use Rattle.std.specs.Prelude.{Contains, slice_get}
use Rattle.base_laws.proofs.ListLemmas.{slice_get-append_left, slice_get-append_right}
use Rattle.search_tree.specs.Flaws.{flat_map_from}

abbrev pub Has : {X : Type 0} → List X → X → Type 0
Has xs x = (j : ℕ) × (slice_get xs j ≡ Some x)

pub has_left : {X : Type 0} (xs ys : List X) (x : X) → Has xs x → Has (xs ++ ys) x
has_left xs ys x h = (h.0, slice_get-append_left xs ys h.0 (slice_get_within xs h.0 x h.1) ∙ h.1)

pub has_right : {X : Type 0} (xs ys : List X) (x : X) → Has ys x → Has (xs ++ ys) x
has_right xs ys x h = (length xs + h.0, slice_get-append_right xs ys h.0 ∙ h.1)

pub has_from : {X Y : Type 0} (f : ℕ → X → List Y) (w i : ℕ) (xs : List X) (x : X) (y : Y) → slice_get xs i ≡ Some x → Has (f (w + i) x) y → Has (flat_map_from f w xs) y
has_from f w i [] x y is h = absurd (cc)
has_from f w zero (z ∷ xs) x y is h =
    let same : x ≡ z = cc in
    let here : w + 0 ≡ w = omega arith in
    has_left (f w z) (flat_map_from f (suc w) xs) y (subst (λ q. Has (f w q) y) same (subst (λ n. Has (f n x) y) here h))
has_from f w (suc i) (z ∷ xs) x y is h =
    let there : w + suc i ≡ suc w + i = omega arith in
    has_right (f w z) (flat_map_from f (suc w) xs) y (has_from f (suc w) i xs x y is (subst (λ n. Has (f n x) y) there h))

flat_at : {X Y : Type 0} (f : X → List Y) (xs : List X) (j : ℕ) (x : X) (y : Y) → slice_get xs j ≡ Some x → Has (f x) y → Has (flat_map f xs) y
flat_at f [] j x y is h = absurd (cc)
flat_at f (z ∷ xs) zero x y is h = let same : x ≡ z = cc in has_left (f z) (flat_map f xs) y (subst (λ q. Has (f q) y) same h)
flat_at f (z ∷ xs) (suc j) x y is h = has_right (f z) (flat_map f xs) y (flat_at f xs j x y is h)

pub has_flat : {X Y : Type 0} (f : X → List Y) (xs : List X) (x : X) (y : Y) → Has xs x → Has (f x) y → Has (flat_map f xs) y
has_flat f xs x y is h = flat_at f xs is.0 x y is.1 h

filter_at : {X : Type 0} (test : X → Bool) (xs : List X) (j : ℕ) (x : X) → slice_get xs j ≡ Some x → test x ≡ true → Has (filter test xs) x
filter_at test [] j x e passes = absurd (cc)
filter_at test (z ∷ xs) zero x e passes = let same : x ≡ z = cc in let t : test z ≡ true = ap test (sym same) ∙ passes in rw t (0, ap Some (sym same))
filter_at test (z ∷ xs) (suc j) x e passes = let r = filter_at test xs j x e passes in elim (cases_Bool (test z)) [ inl t ↦ rw t (suc r.0, r.1) | inr t ↦ rw t r ]

pub has_filter : {X : Type 0} (test : X → Bool) (xs : List X) (x : X) → Has xs x → test x ≡ true → Has (filter test xs) x
has_filter test xs x h passes = filter_at test xs h.0 x h.1 passes

-- where a test holds of some element
pub any_true : {X : Type 0} (test : X → Bool) (xs : List X) → list_any test xs ≡ true → (x : X) × Has xs x × (test x ≡ true)
any_true test [] h = absurd (cc)
any_true test (x ∷ xs) h = elim (cases_Bool (test x)) [
  | inl passes ↦ (x, (0, refl), passes)
  | inr fails ↦ let r = any_true test xs (rw fails at h) in (r.0, (suc r.1.0, r.1.1), r.2)
]

-- and the other way round
pub any_from : {X : Type 0} (test : X → Bool) (xs : List X) (x : X) → Has xs x → test x ≡ true → list_any test xs ≡ true
any_from test xs x h passes = by xs h.0 h.1
  where
    by : (xs : List _) (j : ℕ) → slice_get xs j ≡ Some x → list_any test xs ≡ true
    by [] j is = absurd (cc)
    by (y ∷ xs) zero is = let same : y ≡ x = cc in rw (ap test same ∙ passes) refl
    by (y ∷ xs) (suc j) is = let r = by xs j is in elim (cases_Bool (test y)) [ inl t ↦ rw t refl | inr t ↦ rw t r ]

pub contains : {X : Type 0} (xs : List X) (x : X) → Has xs x → Contains xs x
contains xs x h = subst (Contains xs) (get_or_from_slice_get xs h.0 x x h.1) (Contains-get_or xs h.0 x (slice_get_within xs h.0 x h.1))

-- where an element of joined lists comes from
pub has_either : {X : Type 0} (xs ys : List X) (x : X) → Has (xs ++ ys) x → Has xs x ⊎ Has ys x
has_either [] ys x h = inr h
has_either (z ∷ xs) ys x (zero, is) = inl (0, is)
has_either (z ∷ xs) ys x (suc j, is) = elim (has_either xs ys x (j, is)) [ inl h ↦ inl (suc h.0, h.1) | inr h ↦ inr h ]

pub of_map : {X Y : Type 0} (f : X → Y) (xs : List X) (y : Y) → Has (map f xs) y → (x : X) × Has xs x × (f x ≡ y)
of_map f [] y h = absurd (let is : slice_get [] h.0 ≡ Some y = h.1 in cc)
of_map f (x ∷ xs) y (zero, is) = (x, (0, refl), let e : Some (f x) ≡ Some y = is in cc)
of_map f (x ∷ xs) y (suc j, is) = let r = of_map f xs y (j, is) in (r.0, (suc r.1.0, r.1.1), r.2)

pub of_flat_map : {X Y : Type 0} (f : X → List Y) (xs : List X) (y : Y) → Has (flat_map f xs) y → (x : X) × Has xs x × Has (f x) y
of_flat_map f [] y h = absurd (let is : slice_get [] h.0 ≡ Some y = h.1 in cc)
of_flat_map f (x ∷ xs) y h = elim (has_either (f x) (flat_map f xs) y h) [
  | inl here ↦ (x, (0, refl), here)
  | inr there ↦ let r = of_flat_map f xs y there in (r.0, (suc r.1.0, r.1.1), r.2)
]

pub of_flat_map_from : {X Y : Type 0} (f : ℕ → X → List Y) (w : ℕ) (xs : List X) (y : Y) → Has (flat_map_from f w xs) y → (i : ℕ) × (x : X) × (slice_get xs i ≡ Some x) × Has (f (w + i) x) y
of_flat_map_from f w [] y h = absurd (let is : slice_get [] h.0 ≡ Some y = h.1 in cc)
of_flat_map_from f w (x ∷ xs) y h = elim (has_either (f w x) (flat_map_from f (suc w) xs) y h) [
  | inl here ↦ let e : w ≡ w + 0 = omega arith in (0, x, refl, subst (λ n. Has (f n x) y) e here)
  | inr there ↦
      let r = of_flat_map_from f (suc w) xs y there in
      let e : suc w + r.0 ≡ w + suc r.0 = omega arith in
      (suc r.0, r.1, r.2, subst (λ n. Has (f n r.1) y) e r.3)
]
