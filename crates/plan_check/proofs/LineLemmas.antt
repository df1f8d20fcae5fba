-- The tokens of a plan with new ones behind it.
use Rattle.std.proofs.Common.{◌≡◌, ℕ, suc, ◌+◌, ◌<◌, false, true, nat_eq, List, [], ◌∷◌, ◌++◌, length, map, take, get_or, Some, None, refl, sym, ap, ◌∙◌, subst, arith, inl, inr, length-append, append-nil}
use Rattle.std.proofs.lemmas.Bool.{cases_Bool, eqb-true}
use Rattle.std.proofs.lemmas.List.{take_more}
use Rattle.std.specs.Prelude.{slice_get, ◌-◌}
use Rattle.std.specs.List.{AllByRecursion}
use Rattle.hs_base.specs.declared.ids.ValId.{ValId}
use Rattle.hs_base.specs.declared.mission.Kind.{Kind}
use Rattle.hs_base.specs.declared.mission.Var.{Var}
use Rattle.hs_base.specs.Points.{timeline_of}
use Rattle.hs_base.specs.Timelines.{MayFollow}
use Rattle.hs_base.specs.Checked.{MayStandBehind}
use Rattle.base_laws.proofs.PointLemmas.{timeline-append}
use Rattle.plan_index.specs.declared.placed.PlacedToken.{PlacedToken}
use Rattle.plan_index.specs.Lines.{kind_in}
use Rattle.plan_check.specs.Lines.{last_value, size_of}

-- the last value with one more token
pub last_value-push : (ks : List Kind) (k : Kind) → last_value (ks ++ k ∷ []) ≡ Some k.value
last_value-push [] k = refl
last_value-push (x ∷ []) k = refl
last_value-push (x ∷ y ∷ ks) k = last_value-push (y ∷ ks) k

-- of two lists it is that of the second, where that has one
pub last_value-second : (xs ys : List Kind) (v : ValId) → last_value ys ≡ Some v → last_value (xs ++ ys) ≡ Some v
last_value-second [] ys v is = is
last_value-second (x ∷ []) [] v is = absurd (cc)
last_value-second (x ∷ []) (y ∷ ys) v is = is
last_value-second (x ∷ z ∷ xs) ys v is = last_value-second (z ∷ xs) ys v is

-- a list without last value is empty
pub last_value-none : (ks : List Kind) → last_value ks ≡ None → ks ≡ []
last_value-none [] is = refl
last_value-none (k ∷ []) is = absurd (cc)
last_value-none (k ∷ l ∷ ks) is = absurd (let none = last_value-none (l ∷ ks) is in cc)

-- the last of placed tokens has the last value of their kinds
pub last_value-placed : (v : ℕ) (ps : List PlacedToken) (p : PlacedToken) → slice_get ps (length ps - 1) ≡ Some p → last_value (map (kind_in v) ps) ≡ Some p.value
last_value-placed v [] p is = absurd (cc)
last_value-placed v (x ∷ []) p is = let same : x ≡ p = cc in ap (λ (q : PlacedToken). Some q.value) same
last_value-placed v (x ∷ y ∷ ps) p is = last_value-placed v (y ∷ ps) p (one_less x y ps is)
  where
    one_less : (x y : PlacedToken) (ps : List PlacedToken) → slice_get (x ∷ y ∷ ps) (length (x ∷ y ∷ ps) - 1) ≡ Some p → slice_get (y ∷ ps) (length (y ∷ ps) - 1) ≡ Some p
    one_less x y ps is =
        let e : length (x ∷ y ∷ ps) - 1 ≡ suc (length (y ∷ ps) - 1) = omega arith in
        sym (ap (slice_get (x ∷ y ∷ ps)) e) ∙ is

-- placed tokens without a last one are none
pub placed_none : (ps : List PlacedToken) → slice_get ps (length ps - 1) ≡ None → ps ≡ []
placed_none [] is = refl
placed_none (x ∷ []) is = absurd (cc)
placed_none (x ∷ y ∷ ps) is = absurd (let none = placed_none (y ∷ ps) (one_less x y ps is) in cc)
  where
    one_less : (x y : PlacedToken) (ps : List PlacedToken) → slice_get (x ∷ y ∷ ps) (length (x ∷ y ∷ ps) - 1) ≡ None → slice_get (y ∷ ps) (length (y ∷ ps) - 1) ≡ None
    one_less x y ps is =
        let e : length (x ∷ y ∷ ps) - 1 ≡ suc (length (y ∷ ps) - 1) = omega arith in
        sym (ap (slice_get (x ∷ y ∷ ps)) e) ∙ is

-- one more token is on its own timeline alone
pub own_line : (ks : List Kind) (k : Kind) (v : ℕ) → nat_eq k.sv.0 v ≡ true → timeline_of (ks ++ k ∷ []) v ≡ timeline_of ks v ++ k ∷ []
own_line ks k v own = timeline-append ks (k ∷ []) v ∙ ap (λ l. timeline_of ks v ++ l) (rw own refl)

pub other_line : (ks : List Kind) (k : Kind) (v : ℕ) → nat_eq k.sv.0 v ≡ false → timeline_of (ks ++ k ∷ []) v ≡ timeline_of ks v
other_line ks k v other = timeline-append ks (k ∷ []) v ∙ ap (λ l. timeline_of ks v ++ l) (rw other refl) ∙ append-nil (timeline_of ks v)

-- numbers that differ
pub differ : (a b : ℕ) → (a ≡ b → ⊥) → nat_eq a b ≡ false
differ a b h = elim (cases_Bool (nat_eq a b)) [ inl same ↦ absurd (h (eqb-true a b same)) | inr other ↦ other ]

-- the last value of a variable among one more of a list's tokens
pub last_own : (ks : List Kind) (i : ℕ) (d : Kind) (v : ℕ) → i < length ks → nat_eq (get_or ks i d).sv.0 v ≡ true → last_value (timeline_of (take (i + 1) ks) v) ≡ Some (get_or ks i d).value
last_own ks i d v below own =
    ap (λ l. last_value (timeline_of l v)) (take_more ks i d below)
    ∙ ap last_value (own_line (take i ks) (get_or ks i d) v own)
    ∙ last_value-push (timeline_of (take i ks) v) (get_or ks i d)

pub last_other : (ks : List Kind) (i : ℕ) (d : Kind) (v : ℕ) → i < length ks → nat_eq (get_or ks i d).sv.0 v ≡ false → last_value (timeline_of (take (i + 1) ks) v) ≡ last_value (timeline_of (take i ks) v)
last_other ks i d v below other =
    ap (λ l. last_value (timeline_of l v)) (take_more ks i d below)
    ∙ ap last_value (other_line (take i ks) (get_or ks i d) v other)

-- the last value of a plan with new tokens: that of the new ones, or else of the plan
pub last_in_new : (tokens new : List Kind) (v : ℕ) (value : ValId) → last_value (timeline_of new v) ≡ Some value → last_value (timeline_of (tokens ++ new) v) ≡ Some value
last_in_new tokens new v value is = ap last_value (timeline-append tokens new v) ∙ last_value-second (timeline_of tokens v) (timeline_of new v) value is

pub last_in_old : (tokens new : List Kind) (v : ℕ) → last_value (timeline_of new v) ≡ None → last_value (timeline_of (tokens ++ new) v) ≡ last_value (timeline_of tokens v)
last_in_old tokens new v none =
    ap last_value (timeline-append tokens new v ∙ ap (λ l. timeline_of tokens v ++ l) (last_value-none (timeline_of new v) none) ∙ append-nil (timeline_of tokens v))

-- how many tokens of a variable there are in both
pub size-append : (tokens new : List Kind) (v : ℕ) → size_of (tokens ++ new) v ≡ size_of tokens v + size_of new v
size-append tokens new v = ap length (timeline-append tokens new v) ∙ length-append (timeline_of tokens v) (timeline_of new v)

-- what may stand behind a timeline may follow its last value
pub stands_after : (var : Var) (ks : List Kind) (last : ValId) (value : ℕ) → last_value ks ≡ Some last → MayFollow var last.0 value → MayStandBehind var ks value
stands_after var [] last value is h = absurd (cc)
stands_after var (k ∷ []) last value is h = let same : k.value ≡ last = cc in subst (λ (x : ValId). MayFollow var x.0 value) (sym same) h
stands_after var (k ∷ l ∷ ks) last value is h = stands_after var (l ∷ ks) last value is h

pub follows_last : (var : Var) (ks : List Kind) (last : ValId) (value : ℕ) → last_value ks ≡ Some last → MayStandBehind var ks value → MayFollow var last.0 value
follows_last var [] last value is h = absurd (cc)
follows_last var (k ∷ []) last value is h = let same : k.value ≡ last = cc in subst (λ (x : ValId). MayFollow var x.0 value) same h
follows_last var (k ∷ l ∷ ks) last value is h = follows_last var (l ∷ ks) last value is h

-- on an empty timeline the begin value stands
pub stands_first : (var : Var) (ks : List Kind) (value : ℕ) → last_value ks ≡ None → value ≡ var.begin.0 → MayStandBehind var ks value
stands_first var ks value none is = subst (λ (l : List Kind). MayStandBehind var l value) (sym (last_value-none ks none)) is

pub is_first : (var : Var) (ks : List Kind) (value : ℕ) → last_value ks ≡ None → MayStandBehind var ks value → value ≡ var.begin.0
is_first var ks value none h = subst (λ (l : List Kind). MayStandBehind var l value) (last_value-none ks none) h

-- a timeline with tokens is that of one of so many variables
pub below_vars : (vars : ℕ) (tokens : List Kind) (v : ℕ) → AllByRecursion (λ (k : Kind). k.sv.0 < vars) tokens → 0 < size_of tokens v → v < vars
below_vars vars [] v h some = absurd (omega (arith, some))
below_vars vars (k ∷ ks) v h some = elim (cases_Bool (nat_eq k.sv.0 v)) [
  | inl own ↦ let same : k.sv.0 ≡ v = eqb-true _ _ own in let below = h.0 in omega (arith, below, same)
  | inr other ↦ below_vars vars ks v h.1 (rw other at some)
]
