-- What a list has, after a filter, a map and the like.
use Rattle.std.proofs.Common.{◌≡◌, ℕ, zero, suc, ◌+◌, ◌<◌, ◌≤◌, Bool, true, cond, List, [], ◌∷◌, ◌++◌, refl, sym, ap, ◌∙◌, subst, arith, inl, inr, ◌⊎◌}
use Rattle.std.proofs.lemmas.Bool.{cases_eq, cases_Bool, and_parts}
use Rattle.std.specs.Prelude.{filter, map, flat_map, Contains}
use Rattle.std.specs.List.{AllByRecursion, list_all}
use Rattle.hs_base.specs.Schedule.{numbers_from}
use Rattle.net_laws.proofs.BetweenLemmas.{Has}

pub has_from : {X : Type 0} (xs : List X) (x : X) → Contains xs x → Has xs x
has_from [] x h = absurd (omega (arith, h.1))
has_from (y ∷ ys) x (zero, l, e) = inl e
has_from (y ∷ ys) x (suc k, l, e) = inr (has_from ys x (k, omega (arith, l), e))

pub contains_from : {X : Type 0} (xs : List X) (x : X) → Has xs x → Contains xs x
contains_from [] x h = absurd h
contains_from (y ∷ ys) x (inl e) = (0, omega arith, e)
contains_from (y ∷ ys) x (inr j) = let r = contains_from ys x j in (suc r.0, omega (arith, r.1), r.2)

pub has_filter : {X : Type 0} (p : X → Bool) (xs : List X) (x : X) → Has (filter p xs) x → Has xs x × (p x ≡ true)
has_filter p [] x h = absurd h
has_filter p (y ∷ ys) x h = elim (cases_Bool (p y)) [
  | inl e ↦
      let g : Has (y ∷ filter p ys) x = subst (λ b. Has (cond b (y ∷ filter p ys) (filter p ys)) x) e h in
      elim g [
        | inl same ↦ (inl same, ap p (sym same) ∙ e)
        | inr j ↦ let r = has_filter p ys x j in (inr r.0, r.1)
      ]
  | inr e ↦
      let g : Has (filter p ys) x = subst (λ b. Has (cond b (y ∷ filter p ys) (filter p ys)) x) e h in
      let r = has_filter p ys x g in (inr r.0, r.1)
]

pub filter_has : {X : Type 0} (p : X → Bool) (xs : List X) (x : X) → Has xs x → p x ≡ true → Has (filter p xs) x
filter_has p [] x h e = absurd h
filter_has p (y ∷ ys) x h e = elim h [
  | inl same ↦ subst (λ b. Has (cond b (y ∷ filter p ys) (filter p ys)) x) (sym (ap p same ∙ e)) (inl same)
  | inr j ↦ elim (cases_Bool (p y)) [
    | inl u ↦ subst (λ b. Has (cond b (y ∷ filter p ys) (filter p ys)) x) (sym u) (inr (filter_has p ys x j e))
    | inr u ↦ subst (λ b. Has (cond b (y ∷ filter p ys) (filter p ys)) x) (sym u) (filter_has p ys x j e)
  ]
]

pub has_map : {X Y : Type 0} (f : X → Y) (xs : List X) (y : Y) → Has (map f xs) y → (x : X) × Has xs x × (f x ≡ y)
has_map f [] y h = absurd h
has_map f (x ∷ xs) y (inl e) = (x, inl refl, e)
has_map f (x ∷ xs) y (inr j) = let r = has_map f xs y j in (r.0, inr r.1, r.2)

pub map_has : {X Y : Type 0} (f : X → Y) (xs : List X) (x : X) → Has xs x → Has (map f xs) (f x)
map_has f [] x h = absurd h
map_has f (y ∷ ys) x (inl e) = inl (ap f e)
map_has f (y ∷ ys) x (inr j) = inr (map_has f ys x j)

pub has_append : {X : Type 0} (xs ys : List X) (x : X) → Has (xs ++ ys) x → Has xs x ⊎ Has ys x
has_append [] ys x h = inr h
has_append (y ∷ xs) ys x (inl e) = inl (inl e)
has_append (y ∷ xs) ys x (inr j) = elim (has_append xs ys x j) [ inl k ↦ inl (inr k) | inr k ↦ inr k ]

pub append_left : {X : Type 0} (xs ys : List X) (x : X) → Has xs x → Has (xs ++ ys) x
append_left [] ys x h = absurd h
append_left (y ∷ xs) ys x (inl e) = inl e
append_left (y ∷ xs) ys x (inr j) = inr (append_left xs ys x j)

pub append_right : {X : Type 0} (xs ys : List X) (x : X) → Has ys x → Has (xs ++ ys) x
append_right [] ys x h = h
append_right (y ∷ xs) ys x h = inr (append_right xs ys x h)

pub has_flat_map : {X Y : Type 0} (f : X → List Y) (xs : List X) (y : Y) → Has (flat_map f xs) y → (x : X) × Has xs x × Has (f x) y
has_flat_map f [] y h = absurd h
has_flat_map f (x ∷ xs) y h = elim (has_append (f x) (flat_map f xs) y h) [
  | inl k ↦ (x, inl refl, k)
  | inr k ↦ let r = has_flat_map f xs y k in (r.0, inr r.1, r.2)
]

pub flat_map_has : {X Y : Type 0} (f : X → List Y) (xs : List X) (x : X) (y : Y) → Has xs x → Has (f x) y → Has (flat_map f xs) y
flat_map_has f [] x y h k = absurd h
flat_map_has f (z ∷ xs) x y (inl e) k = append_left (f z) (flat_map f xs) y (subst (λ w. Has (f w) y) (sym e) k)
flat_map_has f (z ∷ xs) x y (inr j) k = append_right (f z) (flat_map f xs) y (flat_map_has f xs x y j k)

pub has_numbers : (from n x : ℕ) → Has (numbers_from from n) x → (from ≤ x) × (x < from + n)
has_numbers from zero x h = absurd h
has_numbers from (suc n) x (inl e) = (omega (arith, e), omega (arith, e))
has_numbers from (suc n) x (inr j) = let r = has_numbers (from + 1) n x j in (omega (arith, r.0), omega (arith, r.1))

pub numbers_has : (from n x : ℕ) → from ≤ x → x < from + n → Has (numbers_from from n) x
numbers_has from zero x h k = absurd (omega (arith, h, k))
numbers_has from (suc n) x h k = elim (cases_eq from x) [
  | inl e ↦ inl e
  | inr e ↦ inr (numbers_has (from + 1) n x (omega (arith, h, e)) (omega (arith, k)))
]

pub each_of : {X : Type 0} (P : X → Type 0) (xs : List X) (x : X) → AllByRecursion P xs → Has xs x → P x
each_of P [] x h i = absurd i
each_of P (y ∷ ys) x h (inl e) = subst P e h.0
each_of P (y ∷ ys) x h (inr j) = each_of P ys x h.1 j

pub each_by : {X : Type 0} (P : X → Type 0) (xs : List X) → ((x : X) → Has xs x → P x) → AllByRecursion P xs
each_by P [] h = tt
each_by P (y ∷ ys) h = (h y (inl refl), each_by P ys (λ x i. h x (inr i)))

pub all_passes : {X : Type 0} (p : X → Bool) (xs : List X) → list_all p xs ≡ true → (x : X) → Has xs x → p x ≡ true
all_passes p [] h x i = absurd i
all_passes p (y ∷ ys) h x i = let r = and_parts _ _ h in elim i [
  | inl e ↦ ap p (sym e) ∙ r.0
  | inr e ↦ all_passes p ys r.1 x e
]

pub passes_all : {X : Type 0} (p : X → Bool) (xs : List X) → ((x : X) → Has xs x → p x ≡ true) → list_all p xs ≡ true
passes_all p [] h = refl
passes_all p (y ∷ ys) h = rw (h y (inl refl)) (passes_all p ys (λ x i. h x (inr i)))
