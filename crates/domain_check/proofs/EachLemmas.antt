-- Lists of which nothing comes, and what holds of each element of a list that is made of another.
use Rattle.std.proofs.Common.{◌≡◌, ◌≢◌, Bool, true, false, cond, ◌&&◌, List, [], ◌∷◌, ◌++◌, map, flat_map, refl, sym, ap, subst, ◌∙◌, inl, inr}
use Rattle.std.proofs.lemmas.Bool.{cases_Bool}
use Rattle.std.proofs.lemmas.List.{map-append}
use Rattle.std.specs.List.{AllByRecursion, AllZip, list_any, list_all}
use Rattle.hs_base.specs.Walks.{join_after, EachAfter, AreDifferent}

module _ {X : Type 0} where
  -- nothing comes of two lists exactly where nothing comes of both
  pub none_before : (xs ys : List X) → xs ++ ys ≡ [] → xs ≡ []
  none_before [] ys h = refl
  none_before (x ∷ xs) ys h = absurd cc

  pub none_behind : (xs ys : List X) → xs ++ ys ≡ [] → ys ≡ []
  none_behind [] ys h = h
  none_behind (x ∷ xs) ys h = absurd cc

  pub none_joined : (xs ys : List X) → xs ≡ [] → ys ≡ [] → xs ++ ys ≡ []
  none_joined xs ys h k = ap (λ l. l ++ ys) h ∙ k

  -- a choice of something or nothing
  pub none_chosen : (b : Bool) (x : X) → cond b (x ∷ []) [] ≡ [] → b ≡ false
  none_chosen true x h = absurd cc
  none_chosen false x h = refl

  pub none_left : (b : Bool) (x : X) → cond b [] (x ∷ []) ≡ [] → b ≡ true
  none_left true x h = refl
  none_left false x h = absurd cc

module _ {X Y : Type 0} where
  pub none_mapped : (f : X → Y) (xs : List X) → map f xs ≡ [] → xs ≡ []
  none_mapped f [] h = refl
  none_mapped f (x ∷ xs) h = absurd cc

  -- nothing comes of a list exactly where nothing comes of each element
  pub each_none : (f : X → List Y) (xs : List X) → flat_map f xs ≡ [] → AllByRecursion (λ x. f x ≡ []) xs
  each_none f [] h = tt
  each_none f (x ∷ xs) h = (none_before (f x) (flat_map f xs) h, each_none f xs (none_behind (f x) (flat_map f xs) h))

  pub none_each : (f : X → List Y) (xs : List X) → AllByRecursion (λ x. f x ≡ []) xs → flat_map f xs ≡ []
  none_each f [] h = refl
  none_each f (x ∷ xs) h = none_joined (f x) (flat_map f xs) h.0 (none_each f xs h.1)

  -- the same of each element after those before it
  pub after_none : (f : List X → X → List Y) (before xs : List X) → join_after f before xs ≡ [] → EachAfter (λ b x. f b x ≡ []) before xs
  after_none f before [] h = tt
  after_none f before (x ∷ xs) h =
      (none_before (f before x) _ h, after_none f (before ++ x ∷ []) xs (none_behind (f before x) _ h))

  pub none_after : (f : List X → X → List Y) (before xs : List X) → EachAfter (λ b x. f b x ≡ []) before xs → join_after f before xs ≡ []
  none_after f before [] h = refl
  none_after f before (x ∷ xs) h = none_joined (f before x) _ h.0 (none_after f (before ++ x ∷ []) xs h.1)

  -- what holds of each image holds of each
  pub each_mapped : (P : Y → Type 0) (g : X → Y) (xs : List X) → AllByRecursion (λ x. P (g x)) xs → AllByRecursion P (map g xs)
  each_mapped P g [] h = tt
  each_mapped P g (x ∷ xs) h = (h.0, each_mapped P g xs h.1)

  pub each_unmapped : (P : Y → Type 0) (g : X → Y) (xs : List X) → AllByRecursion P (map g xs) → AllByRecursion (λ x. P (g x)) xs
  each_unmapped P g [] h = tt
  each_unmapped P g (x ∷ xs) h = (h.0, each_unmapped P g xs h.1)

  -- the same after those before it
  pub after_mapped : (P : List X → X → Type 0) (Q : List Y → Y → Type 0) (g : X → Y) → ((b : List X) (x : X) → P b x → Q (map g b) (g x)) → (before xs : List X) → EachAfter P before xs → EachAfter Q (map g before) (map g xs)
  after_mapped P Q g f before [] h = tt
  after_mapped P Q g f before (x ∷ xs) h =
      (f before x h.0, subst (λ b. EachAfter Q b (map g xs)) (map-append g before (x ∷ [])) (after_mapped P Q g f (before ++ x ∷ []) xs h.1))

  pub after_unmapped : (P : List X → X → Type 0) (Q : List Y → Y → Type 0) (g : X → Y) → ((b : List X) (x : X) → Q (map g b) (g x) → P b x) → (before xs : List X) → EachAfter Q (map g before) (map g xs) → EachAfter P before xs
  after_unmapped P Q g f before [] h = tt
  after_unmapped P Q g f before (x ∷ xs) h =
      (f before x h.0, after_unmapped P Q g f (before ++ x ∷ []) xs (subst (λ b. EachAfter Q b (map g xs)) (sym (map-append g before (x ∷ []))) h.1))

  -- elements are different where their images are
  pub different_unmapped : (g : X → Y) (xs : List X) → AreDifferent (map g xs) → AreDifferent xs
  different_unmapped g xs h =
      after_unmapped (λ b x. AllByRecursion (λ y. y ≢ x) b) (λ b x. AllByRecursion (λ y. y ≢ x) b) g (λ b x k. each_apart b x (each_unmapped (λ y. y ≢ g x) g b k)) [] xs h
    where
      each_apart : (b : List X) (x : X) → AllByRecursion (λ y. g y ≢ g x) b → AllByRecursion (λ y. y ≢ x) b
      each_apart [] x k = tt
      each_apart (y ∷ b) x k = ((λ e. k.0 (ap g e)), each_apart b x k.1)

  -- what pairs with each is its image
  pub zip_map : (R : X → Y → Type 0) (g : X → Y) → ((x : X) (y : Y) → R x y → y ≡ g x) → (xs : List X) (ys : List Y) → AllZip R xs ys → ys ≡ map g xs
  zip_map R g f [] [] h = refl
  zip_map R g f [] (y ∷ ys) h = absurd h
  zip_map R g f (x ∷ xs) [] h = absurd h
  zip_map R g f (x ∷ xs) (y ∷ ys) h = let e = f x y h.0 in let k = zip_map R g f xs ys h.1 in ap (λ z. z ∷ ys) e ∙ ap (λ zs. g x ∷ zs) k

  pub map_zip : (R : X → Y → Type 0) (g : X → Y) (K : X → Type 0) → ((x : X) → K x → R x (g x)) → (xs : List X) → AllByRecursion K xs → AllZip R xs (map g xs)
  map_zip R g K f [] h = tt
  map_zip R g K f (x ∷ xs) h = (f x h.0, map_zip R g K f xs h.1)

  -- what holds of each that pairs with something
  pub zip_each : (R : X → Y → Type 0) (K : X → Type 0) → ((x : X) (y : Y) → R x y → K x) → (xs : List X) (ys : List Y) → AllZip R xs ys → AllByRecursion K xs
  zip_each R K f [] ys h = tt
  zip_each R K f (x ∷ xs) [] h = absurd h
  zip_each R K f (x ∷ xs) (y ∷ ys) h = (f x y h.0, zip_each R K f xs ys h.1)

-- elements are different exactly where their images are, where those of known elements tell them apart
pub different_mapped : {X Y : Type 0} (K : X → Type 0) (g : X → Y) → ((x y : X) → K x → K y → g x ≡ g y → x ≡ y) → (before xs : List X) → AllByRecursion K before → AllByRecursion K xs → EachAfter (λ b x. AllByRecursion (λ y. y ≢ x) b) before xs → EachAfter (λ b x. AllByRecursion (λ y. y ≢ x) b) (map g before) (map g xs)
different_mapped K g apart before [] kb kx h = tt
different_mapped {X} {Y} K g apart before (x ∷ xs) kb kx h = (
  all_apart before kb h.0,
  subst (λ b. EachAfter (λ c y. AllByRecursion (λ z. z ≢ y) c) b (map g xs)) (map-append g before (x ∷ [])) (different_mapped K g apart (before ++ x ∷ []) xs (more before kb) kx.1 h.1),
)
  where
    all_apart : (b : List X) → AllByRecursion K b → AllByRecursion (λ y. y ≢ x) b → AllByRecursion (λ z. z ≢ g x) (map g b)
    all_apart [] k a = tt
    all_apart (y ∷ b) k a = ((λ e. a.0 (apart y x k.0 kx.0 e)), all_apart b k.1 a.1)

    more : (b : List X) → AllByRecursion K b → AllByRecursion K (b ++ x ∷ [])
    more [] k = (kx.0, tt)
    more (y ∷ b) k = (k.0, more b k.1)

-- tests of all and of any
pub each_passes : {X : Type 0} (p : X → Bool) (xs : List X) → list_all p xs ≡ true → AllByRecursion (λ x. p x ≡ true) xs
each_passes p [] h = tt
each_passes p (x ∷ xs) h = elim (cases_Bool (p x)) [
  | inl passes ↦ (passes, each_passes p xs (let k : list_all p xs ≡ true = rw passes at h in k))
  | inr fails ↦ absurd (let k : false ≡ true = rw fails at h in cc)
]

pub passes_each : {X : Type 0} (p : X → Bool) (xs : List X) → AllByRecursion (λ x. p x ≡ true) xs → list_all p xs ≡ true
passes_each p [] h = refl
passes_each p (x ∷ xs) h = rw h.0 (passes_each p xs h.1)

pub each_fails : {X : Type 0} (p : X → Bool) (xs : List X) → list_any p xs ≡ false → AllByRecursion (λ x. p x ≡ false) xs
each_fails p [] h = tt
each_fails p (x ∷ xs) h = elim (cases_Bool (p x)) [
  | inl passes ↦ absurd (let k : true ≡ false = rw passes at h in cc)
  | inr fails ↦ (fails, each_fails p xs (let k : list_any p xs ≡ false = rw fails at h in k))
]

pub fails_each : {X : Type 0} (p : X → Bool) (xs : List X) → AllByRecursion (λ x. p x ≡ false) xs → list_any p xs ≡ false
fails_each p [] h = refl
fails_each p (x ∷ xs) h = rw h.0 (fails_each p xs h.1)

-- a test of all that the elements give
pub list_all-flat_map : {X Y : Type 0} (p : Y → Bool) (f : X → List Y) (xs : List X) → list_all p (flat_map f xs) ≡ list_all (λ x. list_all p (f x)) xs
list_all-flat_map p f [] = refl
list_all-flat_map p f (x ∷ xs) = list_all-append p (f x) (flat_map f xs) ∙ ap (λ b. list_all p (f x) && b) (list_all-flat_map p f xs)
  where
    list_all-append : {Y : Type 0} (p : Y → Bool) (ys zs : List Y) → list_all p (ys ++ zs) ≡ list_all p ys && list_all p zs
    list_all-append p [] zs = refl
    list_all-append p (y ∷ ys) zs = elim (cases_Bool (p y)) [
      | inl passes ↦ rw passes (list_all-append p ys zs)
      | inr fails ↦ rw fails refl
    ]
