-- In a schedule of a plan that keeps its rules the ends of a timeline rise, and those of new tokens stand behind the
-- horizon before.
use Rattle.std.proofs.Common.{◌≡◌, ◌≢◌, ℕ, zero, suc, ◌-◌, ◌<◌, ◌≤◌, List, [], ◌∷◌, ◌++◌, length, Some, refl, sym, ap, subst, arith, inl, inr, pos}
use Rattle.std.proofs.lemmas.Int.{ints}
use Rattle.std.proofs.lemmas.Bool.{cases_lt}
use Rattle.std.proofs.lemmas.Option.{slice_get_within}
use Rattle.std.specs.Prelude.{◌≤ℤ◌, ◌<ℤ◌, slice_get}
use Rattle.std.specs.List.{AllByRecursion}
use Rattle.hs_base.specs.declared.mission.Kind.{Kind}
use Rattle.hs_base.specs.declared.mission.Value.{Value}
use Rattle.hs_base.specs.declared.mission.Horizon.{Horizon}
use Rattle.hs_base.specs.declared.mission.Mission.{Mission}
use Rattle.hs_base.specs.declared.plan.Extension.{Extension}
use Rattle.hs_base.specs.Walks.{EachAfter}
use Rattle.hs_base.specs.Schedule.{Schedule}
use Rattle.hs_base.specs.Missions.{IsKindOf, IsVar, IsMission}
use Rattle.hs_base.specs.Points.{ending, points_of, place_of, start_at, timeline_of, tokens_of, value_of}
use Rattle.hs_base.specs.Bounds.{IsScheduleOf}
use Rattle.hs_base.specs.Checked.{KeepsOrderAt, KeepsRules}
use Rattle.hs_base.proofs.RuleLemmas.{order_kept}
use Rattle.base_laws.proofs.ListLemmas.{snoc_induction, EachAfter-push, each_at, each_both}
use Rattle.base_laws.proofs.MissionLemmas.{each_filter, value_is}
use Rattle.base_laws.proofs.PointLemmas.{tokens-push, ending_kept, of_variable}
use Rattle.plan_laws.proofs.ChainLemmas.{value_there, has_tokens}
use Rattle.plan_laws.proofs.LengthLemmas.{lengths_in}
use Rattle.plan_laws.proofs.SpanLemmas.{ends_in}
use Rattle.plan_laws.proofs.PlanLemmas.{restricts}

-- the point that ends a token
abbrev pub end_at : List Extension → ℕ → ℕ → ℕ
end_at es v i = place_of (ending v i) (points_of es)

each_alone : {X : Type 0} (P : List X → X → Type 0) (Q : X → Type 0) → ((b : List X) (x : X) → P b x → Q x) → (before xs : List X) → EachAfter P before xs → AllByRecursion Q xs
each_alone P Q f before [] h = tt
each_alone P Q f before (x ∷ xs) h = (f before x h.0, each_alone P Q f (before ++ x ∷ []) xs h.1)

found_there : {X : Type 0} (xs : List X) (i : ℕ) → i < length xs → (x : X) × (slice_get xs i ≡ Some x)
found_there [] i below = absurd (omega arith)
found_there (x ∷ xs) zero below = (x, refl)
found_there (x ∷ xs) (suc i) below = found_there xs i (omega arith)

module _ (m : Mission) (mission : IsMission m) where
  kind_of : (es : List Extension) (new : List Kind) (k : Kind) → KeepsOrderAt m es new k → IsKindOf m.vars k
  kind_of es new k r = (r.var, r.is_var, value_there (length m.words) r.var (timeline_of (tokens_of es ++ new) k.sv.0) k.value.0 (each_at (IsVar (length m.words)) m.vars k.sv.0 r.var mission.vars r.is_var) r.linked)

  more_kinds : (before : List Extension) (e : Extension) → KeepsRules m before e → AllByRecursion (IsKindOf m.vars) (tokens_of before) → AllByRecursion (IsKindOf m.vars) (tokens_of (before ++ e ∷ []))
  more_kinds before e r k =
      subst (AllByRecursion (IsKindOf m.vars)) (sym (tokens-push before e))
      (each_both (IsKindOf m.vars) (tokens_of before) e.tokens k (each_alone (KeepsOrderAt m before) (IsKindOf m.vars) (kind_of before) [] e.tokens (order_kept r).each))

  pub kind_at : (es : List Extension) → EachAfter (KeepsRules m) [] es → (v i : ℕ) (k : Kind) → slice_get (timeline_of (tokens_of es) v) i ≡ Some k → IsKindOf m.vars k
  kind_at es r v i k at = each_at (IsKindOf m.vars) (timeline_of (tokens_of es) v) i k (each_filter (IsKindOf m.vars) _ (tokens_of es) (snoc_induction (λ l. AllByRecursion (IsKindOf m.vars) (tokens_of l)) (KeepsRules m) more_kinds [] es tt r)) at

  -- the variable of a token is one of the mission
  pub token_below : (es : List Extension) → EachAfter (KeepsRules m) [] es → (v i : ℕ) → i < length (timeline_of (tokens_of es) v) → v < length m.vars
  token_below es r v i below =
      let f = found_there (timeline_of (tokens_of es) v) i below in
      let k = kind_at es r v i f.0 f.1 in
      omega (arith, slice_get_within m.vars f.0.sv.0 k.0 k.1, of_variable (tokens_of es) v i f.0 f.1)

  -- and its value too, which lasts a tick at least
  pub token_value : (es : List Extension) → EachAfter (KeepsRules m) [] es → (v i : ℕ) (k : Kind) → slice_get (timeline_of (tokens_of es) v) i ≡ Some k → (val : Value) × (value_of m k ≡ Some val) × (pos 1 ≤ℤ val.lasts.low)
  token_value es r v i k at =
      let has = kind_at es r v i k at in
      let f = found_there has.0.values k.value.0 has.2 in
      let is : value_of m k ≡ Some f.0 = rw (has.1, value_of) f.1 in
      (f.0, is, (value_is m k f.0 mission is).1.lasts.0)

  module _ (es : List Extension) (rules : EachAfter (KeepsRules m) [] es) (s : Schedule) (meets : IsScheduleOf m es s) where
    -- a token starts before it ends
    pub token_rises : (v i : ℕ) → i < length (timeline_of (tokens_of es) v) → s (start_at es v i) <ℤ s (end_at es v i)
    token_rises v i below =
        let f = found_there (timeline_of (tokens_of es) v) i below in
        let val = token_value es rules v i f.0 f.1 in
        let long = (lengths_in m s es meets).each v i f.0 val.0 f.1 val.1 in
        omega (arith, ints, long.0, val.2)

    -- and so an earlier one of its timeline ends before a later one
    pub ends_rise : (v i j : ℕ) → i < j → j < length (timeline_of (tokens_of es) v) → s (end_at es v i) <ℤ s (end_at es v j)
    ends_rise v i zero less below = absurd (omega arith)
    ends_rise v i (suc j) less below =
        let here : s (end_at es v j) <ℤ s (end_at es v (suc j)) = token_rises v (suc j) below in
        elim (cases_lt i j) [
          | inl earlier ↦ let old = ends_rise v i j earlier (omega arith) in omega (arith, ints, old, here)
          | inr last ↦ let same : i ≡ j = omega arith in subst (λ k. s (end_at es v k) <ℤ s (end_at es v (suc j))) (sym same) here
        ]

  -- the end of a new token stands behind the horizon of the plan before, where that isn't empty
  pub new_end_late : (before : List Extension) (e : Extension) → EachAfter (KeepsRules m) [] (before ++ e ∷ []) → before ≢ [] → (s : Schedule) → IsScheduleOf m (before ++ e ∷ []) s → (g : Horizon) → slice_get m.horizons (length before - 1) ≡ Some g → (v i : ℕ) → length (timeline_of (tokens_of before) v) ≤ i → i < length (timeline_of (tokens_of (before ++ e ∷ [])) v) → g.tick <ℤ s (end_at (before ++ e ∷ []) v i)
  new_end_late before e rules some s meets g is v i new below =
      let es = before ++ e ∷ [] in
      let front = (EachAfter-push (KeepsRules m) [] before e rules).0 in
      let v_below = token_below es rules v i below in
      let has = has_tokens m before front some v v_below in
      let n = length (timeline_of (tokens_of before) v) in
      let last : suc (n - 1) ≡ n = omega (arith, has) in
      let late = (ends_in m s before (restricts m before e s meets)).each g v (n - 1) is v_below last in
      let kept = ap s (ending_kept before e v (n - 1) (omega (arith, has))) in
      let rise = ends_rise es rules s meets v (n - 1) i (omega (arith, has, new)) below in
      omega (arith, ints, late, kept, rise)
