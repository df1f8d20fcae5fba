-- The first point that waits, and the points of a timeline and of the horizons.
use Rattle.std.proofs.Common.{◌≡◌, ℕ, zero, suc, ◌+◌, ◌<◌, ◌≤◌, true, false, cond, nat_eq, List, [], ◌∷◌, length, map, drop, get_or, is_some, Option, Some, None, refl, sym, ap, ◌∙◌, subst, arith, inl, inr, zero-add}
use Rattle.std.proofs.lemmas.Bool.{cases_Bool}
use Rattle.std.proofs.lemmas.List.{drop_more, length-map}
use Rattle.std.proofs.lemmas.List.FromFn.{length-range_with_len}
use Rattle.std.proofs.lemmas.Option.{get_or_from_slice_get}
use Rattle.std.specs.Prelude.{ℤ, slice_get}
use Rattle.hs_base.specs.declared.mission.Kind.{Kind}
use Rattle.hs_base.specs.declared.plan.Extension.{Extension}
use Rattle.hs_base.specs.Fits.{Times}
use Rattle.hs_base.specs.Points.{count, ending, hor, place_of, points_of, start_at, timeline_of, tokens_of}
use Rattle.hs_base.specs.Schedule.{numbers_from}
use Rattle.hs_machine.specs.Views.{ends_of, first_waiting, marks_of}
use Rattle.base_laws.proofs.PointLemmas.{count_is, named}
use Rattle.plan_laws.proofs.LengthLemmas.{number_at}
use Rattle.plan_index.specs.declared.placed.PlacedToken.{PlacedToken}
use Rattle.plan_index.specs.Lines.{kind_in}

-- whether there is a time
pub no_time : (o : Option ℤ) → is_some o ≡ false → o ≡ None
no_time None is = refl
no_time (Some t) is = absurd (cc)

pub a_time : (o : Option ℤ) → is_some o ≡ true → (t : ℤ) × (o ≡ Some t)
a_time None is = absurd (cc)
a_time (Some t) is = (t, refl)

-- the first that waits of the points from a place on
pub waits_here : (at : Times) (xs : List ℕ) (k d : ℕ) → k < length xs → at (get_or xs k d) ≡ None → first_waiting at (drop k xs) ≡ 0
waits_here at xs k d below none = ap (first_waiting at) (drop_more xs k d below) ∙ (rw none refl)

pub waits_behind : (at : Times) (xs : List ℕ) (k d : ℕ) (t : ℤ) → k < length xs → at (get_or xs k d) ≡ Some t → first_waiting at (drop k xs) ≡ suc (first_waiting at (drop (k + 1) xs))
waits_behind at xs k d t below some = ap (first_waiting at) (drop_more xs k d below) ∙ (rw some refl)

pub waits_within : (at : Times) (xs : List ℕ) → first_waiting at xs ≤ length xs
waits_within at [] = omega arith
waits_within at (x ∷ xs) = by_case (at x) (waits_within at xs)
  where
    by_case : (o : Option ℤ) → first_waiting at xs ≤ length xs → cond (is_some o) (suc (first_waiting at xs)) 0 ≤ suc (length xs)
    by_case None low = omega arith
    by_case (Some t) low = omega (arith, low)

-- an element of a list that each gives
pub mapped_at : {X Y : Type 0} (f : X → Y) (xs : List X) (i : ℕ) (x : X) → slice_get xs i ≡ Some x → slice_get (map f xs) i ≡ Some (f x)
mapped_at f [] i x is = absurd (cc)
mapped_at f (y ∷ ys) zero x is = let same : y ≡ x = cc in ap (λ z. Some (f z)) same
mapped_at f (y ∷ ys) (suc i) x is = mapped_at f ys i x is

pub none_mapped : {X Y : Type 0} (f : X → Y) (xs : List X) (i : ℕ) (d : Y) → slice_get xs i ≡ None → get_or (map f xs) i d ≡ d
none_mapped f [] i d is = refl
none_mapped f (y ∷ ys) zero d is = absurd (cc)
none_mapped f (y ∷ ys) (suc i) d is = none_mapped f ys i d is

-- the points of the horizons
pub length-marks : (es : List Extension) → length (marks_of es) ≡ length es
length-marks es = length-map (numbers_from 1 (length es)) (hor es) ∙ length-range_with_len 1 (length es)

pub mark_at : (es : List Extension) (k d : ℕ) → k < length es → get_or (marks_of es) k d ≡ hor es (k + 1)
mark_at es k d below =
    let same : 1 + k ≡ k + 1 = omega arith in
    get_or_from_slice_get (marks_of es) k _ d (mapped_at (hor es) (numbers_from 1 (length es)) k (1 + k) (number_at 1 (length es) k below)) ∙ ap (hor es) same

pub mark_there : (es : List Extension) (k : ℕ) → k < length es → hor es (k + 1) < count es
mark_there es k below = (named es).marks_there (k + 1) (omega arith) (omega (arith, below))

-- the points of a timeline
pub start_there : (es : List Extension) (v i : ℕ) → i ≤ length (timeline_of (tokens_of es) v) → start_at es v i < count es
start_there es v zero within = omega arith
start_there es v (suc i) within = (named es).ends_there v i (omega (arith, within))

pub row_ends : (f : ℕ → ℕ) (from : ℕ) (row : List PlacedToken) → ((i : ℕ) (p : PlacedToken) → slice_get row i ≡ Some p → f (from + i) ≡ p.end.0) → map (λ (p : PlacedToken). p.end.0) row ≡ map f (numbers_from from (length row))
row_ends f from [] ends = refl
row_ends f from (p ∷ ps) ends =
    let here : f from ≡ p.end.0 = subst (λ k. f k ≡ p.end.0) (omega arith) (ends 0 p refl) in
    let rest = row_ends f (from + 1) ps (λ i q at. subst (λ k. f k ≡ q.end.0) (omega arith) (ends (suc i) q at)) in
    ap (λ x. x ∷ map (λ (q : PlacedToken). q.end.0) ps) (sym here) ∙ ap (λ xs. f from ∷ xs) rest

pub end_shown : (es : List Extension) (v i : ℕ) → i < length (timeline_of (tokens_of es) v) → slice_get (ends_of es v) i ≡ Some (place_of (ending v i) (points_of es))
end_shown es v i below = mapped_at (λ j. place_of (ending v j) (points_of es)) (numbers_from 0 (length (timeline_of (tokens_of es) v))) i i (number_at 0 (length (timeline_of (tokens_of es) v)) i below ∙ ap (λ (k : ℕ). Some k) (zero-add i))

module _ (es : List Extension) (v : ℕ) (row : List PlacedToken) (kinds : map (kind_in v) row ≡ timeline_of (tokens_of es) v) (ends : (i : ℕ) (p : PlacedToken) → slice_get row i ≡ Some p → place_of (ending v i) (points_of es) ≡ p.end.0) where
  pub row_size : length row ≡ length (timeline_of (tokens_of es) v)
  row_size = sym (length-map row (kind_in v)) ∙ ap length kinds

  pub row_is : map (λ (p : PlacedToken). p.end.0) row ≡ ends_of es v
  row_is = row_ends (λ i. place_of (ending v i) (points_of es)) 0 row (λ i p at. ap (λ k. place_of (ending v k) (points_of es)) (zero-add i) ∙ ends i p at) ∙ ap (λ n. map (λ i. place_of (ending v i) (points_of es)) (numbers_from 0 n)) row_size

  pub row_within : (i : ℕ) (p : PlacedToken) → slice_get row i ≡ Some p → i < length row → p.end.0 < count es
  row_within i p at below = subst (λ x. x < count es) (ends i p at) ((named es).ends_there v i (omega (arith, below, row_size)))

-- a timeline has fewer tokens than the plan has points
pub timeline_within : (es : List Extension) (v : ℕ) → length (timeline_of (tokens_of es) v) < count es
timeline_within es v = omega (arith, few (tokens_of es), count_is es)
  where
    few : (ts : List Kind) → length (timeline_of ts v) ≤ length ts
    few [] = omega arith
    few (t ∷ ts) = elim (cases_Bool (nat_eq t.sv.0 v)) [
      | inl own ↦ let old = few ts in rw own (omega (arith, old))
      | inr other ↦ let old = few ts in rw other (omega (arith, old))
    ]
