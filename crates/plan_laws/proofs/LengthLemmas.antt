-- In a schedule of a plan each token lasts as long as its value may, and each point stands within 0 to LAST.
use Rattle.std.proofs.Common.{◌≡◌, ℕ, zero, suc, ◌+◌, ◌-◌, ◌<◌, ◌≤◌, List, [], ◌∷◌, ◌++◌, length, Option, Some, sym, ap, ◌∙◌, subst, arith, inl, inr}
use Rattle.std.proofs.lemmas.Int.{ints}
use Rattle.std.proofs.lemmas.Bool.{cases_lt}
use Rattle.std.proofs.lemmas.Option.{slice_get_within}
use Rattle.std.specs.Prelude.{slice_get, ◌-ℤ◌}
use Rattle.std.specs.List.{AllByRecursion}
use Rattle.hs_base.specs.declared.range.Range.{Range}
use Rattle.hs_base.specs.declared.net.Bound.{Bound}
use Rattle.hs_base.specs.declared.mission.Kind.{Kind}
use Rattle.hs_base.specs.declared.mission.Value.{Value}
use Rattle.hs_base.specs.declared.mission.Mission.{Mission}
use Rattle.hs_base.specs.declared.plan.TokenRef.{TokenRef}
use Rattle.hs_base.specs.declared.plan.Extension.{Extension}
use Rattle.hs_base.specs.Walks.{join_after, EachAfter}
use Rattle.hs_base.specs.Schedule.{Schedule, Meets, Holds, numbers_from}
use Rattle.hs_base.specs.Ranges.{InRange, whole}
use Rattle.hs_base.specs.Points.{ending, tokens_of, timeline_of, refs_after, points_of, count, place_of, start_at, token_at, value_of}
use Rattle.hs_base.specs.Bounds.{apart, on_some, new_bounds, IsScheduleOf, length_bounds, horizon_bounds, point_bounds, start_bounds, last_bounds, support_bounds, goal_bounds, goals_of}
use Rattle.base_laws.proofs.ListLemmas.{each_flat, slice_get-append_left, snoc_induction}
use Rattle.base_laws.proofs.PointLemmas.{timeline-append, tokens-push, ending_kept, start_kept, ref_of_new}
use Rattle.plan_laws.proofs.ScheduleLemmas.{left, right}

-- x - y is in the range
pub in_range : (s : Schedule) (x y : ℕ) (r : Range) → AllByRecursion (Holds s) (apart x y r) → InRange r (s x -ℤ s y)
in_range s x y r h = (omega (arith, ints, h.1.0), omega (arith, ints, h.0))

-- The parts of an extension's bounds, by item.
module _ (m : Mission) (s : Schedule) (before : List Extension) (e : Extension) (h : Meets (new_bounds m before e) s) where
  abbrev pub with_it : List Extension
  with_it = before ++ e ∷ []

  abbrev pub number : ℕ
  number = length before + 1

  abbrev pub new_refs : List TokenRef
  new_refs = refs_after (tokens_of before) e.tokens

  pub horizon_part : Meets (horizon_bounds m with_it number) s
  horizon_part = left _ _ (left _ _ (left _ _ (left _ _ (left _ _ (left _ _ (left _ _ (left _ _ h)))))))

  pub point_part : Meets (point_bounds (count before) (count with_it - count before)) s
  point_part = right _ _ (left _ _ (left _ _ (left _ _ (left _ _ (left _ _ (left _ _ (left _ _ h)))))))

  pub length_part : Meets (length_bounds m with_it new_refs) s
  length_part = right _ _ (left _ _ (left _ _ (left _ _ (left _ _ (left _ _ (left _ _ h))))))

  pub start_part : Meets (start_bounds with_it number new_refs) s
  start_part = right _ _ (left _ _ (left _ _ (left _ _ (left _ _ (left _ _ h)))))

  pub last_part : Meets (last_bounds m with_it number) s
  last_part = right _ _ (left _ _ (left _ _ (left _ _ (left _ _ h))))

  pub support_part : Meets (support_bounds m with_it e.supports) s
  support_part = right _ _ (left _ _ (left _ _ (left _ _ h)))

  pub goal_part : Meets (goal_bounds with_it (goals_of m number) e.goals) s
  goal_part = right _ _ (left _ _ (left _ _ h))

-- the bounds of each extension hold
pub each_extension : (m : Mission) (s : Schedule) (before es : List Extension) → Meets (join_after (new_bounds m) before es) s → EachAfter (λ b e. Meets (new_bounds m b e) s) before es
each_extension m s before [] h = tt
each_extension m s before (e ∷ es) h = (left _ _ h, each_extension m s (before ++ e ∷ []) es (right _ _ h))

on_value : (P : Bound → Type 0) (m : Mission) (es : List Extension) (t : TokenRef) (f : Value → List Bound) (k : Kind) (val : Value) → token_at es t ≡ Some k → value_of m k ≡ Some val → AllByRecursion P (on_some (token_at es t) (λ k. on_some (value_of m k) f)) → AllByRecursion P (f val)
on_value P m es t f k val is_token is_value h =
    let there : AllByRecursion P (on_some (value_of m k) f) = subst (λ (o : Option Kind). AllByRecursion P (on_some o (λ k. on_some (value_of m k) f))) is_token h in
    subst (λ (o : Option Value). AllByRecursion P (on_some o f)) is_value there

-- every token lasts as long as its value may
pub record LengthsIn (m : Mission) (s : Schedule) (es : List Extension) : Type 0 where
  pub each : (v i : ℕ) (k : Kind) (val : Value) → slice_get (timeline_of (tokens_of es) v) i ≡ Some k → value_of m k ≡ Some val → InRange val.lasts (s (place_of (ending v i) (points_of es)) -ℤ s (start_at es v i))

-- the token at a place of the timeline with one more extension: an old one
pub old_token : (before : List Extension) (e : Extension) (v i : ℕ) (k : Kind) → i < length (timeline_of (tokens_of before) v) → slice_get (timeline_of (tokens_of (before ++ e ∷ [])) v) i ≡ Some k → slice_get (timeline_of (tokens_of before) v) i ≡ Some k
old_token before e v i k old at =
    sym (slice_get-append_left (timeline_of (tokens_of before) v) (timeline_of e.tokens v) i old)
    ∙ ap (λ l. slice_get l i) (sym (timeline-append (tokens_of before) e.tokens v))
    ∙ ap (λ l. slice_get (timeline_of l v) i) (sym (tokens-push before e))
    ∙ at

-- or a new one, which has its name
pub new_token : (before : List Extension) (e : Extension) (v i : ℕ) → length (timeline_of (tokens_of before) v) ≤ i → i < length (timeline_of (tokens_of (before ++ e ∷ [])) v) → (j : ℕ) × (slice_get (refs_after (tokens_of before) e.tokens) j ≡ Some (record { sv = record { 0 = v }; place = i }))
new_token before e v i new below = ref_of_new (tokens_of before) e.tokens v i new (subst (λ (l : List Kind). i < length (timeline_of l v)) (tokens-push before e) below)

lengths-push : (m : Mission) (s : Schedule) (before : List Extension) (e : Extension) → Meets (new_bounds m before e) s → LengthsIn m s before → LengthsIn m s (before ++ e ∷ [])
lengths-push m s before e h p = record { each = each }
  where
    each : (v i : ℕ) (k : Kind) (val : Value) → slice_get (timeline_of (tokens_of (before ++ e ∷ [])) v) i ≡ Some k → value_of m k ≡ Some val → InRange val.lasts (s (place_of (ending v i) (points_of (before ++ e ∷ []))) -ℤ s (start_at (before ++ e ∷ []) v i))
    each v i k val is_token is_value = elim (cases_lt i (length (timeline_of (tokens_of before) v))) [
      | inl old ↦ rw (ending_kept before e v i old, start_kept before e v i (omega arith)) (p.each v i k val (old_token before e v i k old is_token) is_value)
      | inr new ↦
          let r = new_token before e v i new (slice_get_within (timeline_of (tokens_of (before ++ e ∷ [])) v) i k is_token) in
          let bounds = each_flat (Holds s) _ (refs_after (tokens_of before) e.tokens) r.0 (record { sv = record { 0 = v }; place = i }) (length_part m s before e h).each r.1 in
          in_range s _ _ val.lasts (on_value (Holds s) m (before ++ e ∷ []) (record { sv = record { 0 = v }; place = i }) _ k val is_token is_value bounds)
    ]

no_lengths : (m : Mission) (s : Schedule) → LengthsIn m s []
no_lengths m s = record { each = λ v i k val at is. absurd (cc) }

-- a schedule of a plan gives every token a length of its value's range
pub lengths_in : (m : Mission) (s : Schedule) (es : List Extension) → IsScheduleOf m es s → LengthsIn m s es
lengths_in m s es h = snoc_induction (LengthsIn m s) (λ b e. Meets (new_bounds m b e) s) (lengths-push m s) [] es (no_lengths m s) (each_extension m s [] es h)

-- every point but Z stands within 0 to LAST
pub record PointsIn (s : Schedule) (es : List Extension) : Type 0 where
  pub each : (x : ℕ) → 0 < x → x < count es → InRange whole (s x -ℤ s 0)

pub number_at : (a n j : ℕ) → j < n → slice_get (numbers_from a n) j ≡ Some (a + j)
number_at a zero j below = absurd (omega arith)
number_at a (suc n) zero below = let e : a ≡ a + 0 = omega arith in ap Some e
number_at a (suc n) (suc j) below = let e : a + 1 + j ≡ a + suc j = omega arith in number_at (a + 1) n j (omega arith) ∙ ap Some e

-- and the other way round
pub number_is : (a n j x : ℕ) → slice_get (numbers_from a n) j ≡ Some x → (x ≡ a + j) × (j < n)
number_is a zero j x is = absurd (cc)
number_is a (suc n) zero x is = let same : a ≡ x = cc in (let e : a ≡ a + 0 = omega arith in sym same ∙ e, omega arith)
number_is a (suc n) (suc j) x is = let r = number_is (a + 1) n j x is in (omega arith, omega arith)

points-push : (m : Mission) (s : Schedule) (before : List Extension) (e : Extension) → Meets (new_bounds m before e) s → PointsIn s before → PointsIn s (before ++ e ∷ [])
points-push m s before e h p = record { each = each }
  where
    each : (x : ℕ) → 0 < x → x < count (before ++ e ∷ []) → InRange whole (s x -ℤ s 0)
    each x some below = elim (cases_lt x (count before)) [
      | inl old ↦ p.each x some old
      | inr new ↦
          let is : count before + (x - count before) ≡ x = omega arith in
          let at : slice_get (numbers_from (count before) (count (before ++ e ∷ []) - count before)) (x - count before) ≡ Some x = number_at (count before) (count (before ++ e ∷ []) - count before) (x - count before) (omega arith) ∙ ap Some is in
          in_range s x 0 whole (each_flat (Holds s) (λ x. apart x 0 whole) (numbers_from (count before) (count (before ++ e ∷ []) - count before)) (x - count before) x (point_part m s before e h).each at)
    ]

no_points : (s : Schedule) → PointsIn s []
no_points s = record { each = λ x some below. absurd (omega arith) }

pub points_in : (m : Mission) (s : Schedule) (es : List Extension) → IsScheduleOf m es s → PointsIn s es
points_in m s es h = snoc_induction (PointsIn s) (λ b e. Meets (new_bounds m b e) s) (points-push m s) [] es (no_points s) (each_extension m s [] es h)
