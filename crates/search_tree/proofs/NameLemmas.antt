-- The names of points.
use Rattle.std.proofs.Common.{List, None, Option, Some, [], ap, arith, false, inl, inr, length, nat_eq, refl, slice_get, suc, sym, true, ℕ, ◌<◌, ◌∙◌, ◌∷◌, ◌≡◌}
use Rattle.std.proofs.lemmas.Bool.{cases_Bool, eqb-true}
use Rattle.hs_base.specs.Points.{Point, ending, horizon, origin, place_of, points_of, same_point, timeline_of, tokens_of}
use Rattle.hs_base.specs.declared.plan.Extension.{Extension}
use Rattle.base_laws.proofs.PointLemmas.{named}

-- the point at the place of a name
pub at_place_of : (p : Point) (xs : List Point) → place_of p xs < length xs → (q : Point) × (slice_get xs (place_of p xs) ≡ Some q) × (same_point p q ≡ true)
at_place_of p [] h = absurd (omega arith)
at_place_of p (x ∷ xs) h = elim (cases_Bool (same_point p x)) [
  | inl here ↦ rw here (x, refl, here)
  | inr there ↦ let inside : suc (place_of p xs) < suc (length xs) = rw there at h in rw there (at_place_of p xs (omega arith))
]

same_name : (v i : ℕ) (q : Point) → same_point (ending v i) q ≡ true → q ≡ ending v i
same_name v i origin h = absurd (cc)
same_name v i (horizon k) h = absurd (cc)
same_name v i (ending w j) h = elim (cases_Bool (nat_eq v w)) [
  | inl same ↦ elim (cases_Bool (nat_eq i j)) [
    | inl here ↦ ap (λ x. ending x j) (sym (eqb-true v w same)) ∙ ap (ending v) (sym (eqb-true i j here))
    | inr there ↦ let f : false ≡ true = rw (same, there) at h in absurd (cc)
  ]
  | inr other ↦ let f : false ≡ true = rw other at h in absurd (cc)
]

-- the end of a token has its name
pub named_at : (es : List Extension) (v i : ℕ) → i < length (timeline_of (tokens_of es) v) → slice_get (points_of es) (place_of (ending v i) (points_of es)) ≡ Some (ending v i)
named_at es v i below =
    let r = at_place_of (ending v i) (points_of es) ((named es).ends_there v i below) in
    r.1 ∙ ap Some (same_name v i r.0 r.2)

pub ending_same : (v i w j : ℕ) → Some (ending v i) ≡ Some (ending w j) → (v ≡ w) × (i ≡ j)
ending_same v i w j h = (ap of_first h, ap of_second h)
  where
    of_first : Option Point → ℕ
    of_first None = 0
    of_first (Some (ending v i)) = v
    of_first (Some _) = 0

    of_second : Option Point → ℕ
    of_second None = 0
    of_second (Some (ending v i)) = i
    of_second (Some _) = 0
