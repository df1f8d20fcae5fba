-- The points of a plan are ends of the same tokens once it has grown, and stay observed or not.
use Rattle.std.proofs.Common.{◌≡◌, ℕ, ◌<◌, List, [], ◌∷◌, ◌++◌, length, Option, Some, None, refl, ap, ◌∙◌, arith, inl, inr}
use Rattle.std.proofs.lemmas.Bool.{cases_lt}
use Rattle.std.specs.Prelude.{slice_get}
use Rattle.hs_base.specs.declared.mission.Kind.{Kind}
use Rattle.hs_base.specs.declared.mission.Mission.{Mission}
use Rattle.hs_base.specs.declared.plan.Extension.{Extension}
use Rattle.hs_base.specs.Points.{Point, origin, horizon, ending, count, points_of, timeline_of, tokens_of, device_ends, is_observed}
use Rattle.base_laws.proofs.ListLemmas.{slice_get-append_left}
use Rattle.base_laws.proofs.PointLemmas.{named, number_kept, timeline-append, tokens-push}

-- an old token's end is one of the old timeline
pub old_place : (es : List Extension) (x v i : ℕ) → x < count es → slice_get (points_of es) x ≡ Some (ending v i) → i < length (timeline_of (tokens_of es) v)
old_place es x v i below at = elim (cases_lt i (length (timeline_of (tokens_of es) v))) [
  | inl inside ↦ inside
  | inr past ↦ absurd (omega (arith, below, (named es).once x (ending v i) at, (named es).ends_new v i (omega (arith, past))))
]

-- a point stays observed, or not, where the plan grows
pub observed_kept : (m : Mission) (es : List Extension) (e : Extension) (x : ℕ) → x < count es → is_observed m (es ++ e ∷ []) x ≡ is_observed m es x
observed_kept m es e x below = ap (device_ends m (es ++ e ∷ [])) (number_kept es (e ∷ []) x below) ∙ by_point (slice_get (points_of es) x) refl
  where
    by_point : (o : Option Point) → slice_get (points_of es) x ≡ o → device_ends m (es ++ e ∷ []) o ≡ device_ends m es o
    by_point None at = refl
    by_point (Some origin) at = refl
    by_point (Some (horizon k)) at = refl
    by_point (Some (ending v i)) at =
        let inside = old_place es x v i below at in
        let same : slice_get (timeline_of (tokens_of (es ++ e ∷ [])) v) i ≡ slice_get (timeline_of (tokens_of es) v) i = ap (λ (l : List Kind). slice_get (timeline_of l v) i) (tokens-push es e) ∙ ap (λ l. slice_get l i) (timeline-append (tokens_of es) e.tokens v) ∙ slice_get-append_left (timeline_of (tokens_of es) v) (timeline_of e.tokens v) i inside in
        rw (same, device_ends) refl
