-- What a plan that keeps its rules has.
use Rattle.std.proofs.Common.{◌≡◌, ℕ, ◌*◌, ◌<◌, ◌≤◌, pos, List, [], ◌∷◌, ◌++◌, length, get_or, refl, sym, ap, ◌∙◌, subst, arith, append-nil, length-append}
use Rattle.std.proofs.lemmas.Int.{ints}
use Rattle.std.proofs.lemmas.Option.{slice_get_within, slice_get-get_or}
use Rattle.std.specs.Prelude.{◌≤ℤ◌}
use Rattle.std.proofs.lemmas.Grind.{flat_map-append}
use Rattle.std.specs.List.{AllByRecursion}
use Rattle.hs_base.specs.declared.mission.Kind.{Kind}
use Rattle.hs_base.specs.declared.plan.Time.{Time}
use Rattle.hs_base.specs.declared.plan.Extension.{Extension}
use Rattle.hs_base.specs.declared.mission.Mission.{Mission}
use Rattle.hs_base.specs.Walks.{EachAfter}
use Rattle.hs_base.specs.Ranges.{whole, InRange}
use Rattle.hs_base.specs.Missions.{IsKindOf, IsVar, IsMission}
use Rattle.hs_base.specs.Points.{count, tokens_of, timeline_of}
use Rattle.hs_base.specs.Checked.{joined, fixed_of, supports_of, KeepsOrderAt, KeepsOrder, KeepsFixedAt, KeepsRules, KeepsNeeds, Checked}
use Rattle.hs_base.proofs.RuleLemmas.{base_kept, limits_kept, order_kept, fixed_kept, needs_kept}
use Rattle.base_laws.proofs.ListLemmas.{snoc_induction, each_at, each_both, each_weaker}
use Rattle.base_laws.proofs.PointLemmas.{tokens-push, count-push, count_is}
use Rattle.plan_laws.proofs.ChainLemmas.{value_there}
use Rattle.plan_laws.proofs.InsideLemmas.{each_from, tokens_inside}
use Rattle.token_net.specs.Conditions.{IsWithin}

pub fixed-push : (before : List Extension) (e : Extension) → fixed_of (before ++ e ∷ []) ≡ fixed_of before ++ e.fixed
fixed-push before e = flat_map-append (λ (x : Extension). x.fixed) before (e ∷ []) ∙ ap (λ l. fixed_of before ++ l) (append-nil e.fixed)

pub supports-push : (before : List Extension) (e : Extension) → supports_of (before ++ e ∷ []) ≡ supports_of before ++ e.supports
supports-push before e = flat_map-append (λ (x : Extension). x.supports) before (e ∷ []) ∙ ap (λ l. supports_of before ++ l) (append-nil e.supports)

-- a token in order is of a kind of the mission
kind_of : (m : Mission) (es : List Extension) → IsMission m → (new : List Kind) (k : Kind) → KeepsOrderAt m es new k → IsKindOf m.vars k
kind_of m es h new k r = (r.var, r.is_var, value_there (length m.words) r.var (timeline_of (tokens_of es ++ new) k.sv.0) k.value.0 (each_at (IsVar (length m.words)) m.vars k.sv.0 r.var h.vars r.is_var) r.linked)

module _ (m : Mission) (h : IsMission m) where
  abbrev pub AllKinds : List Extension → Type 0
  AllKinds es = AllByRecursion (IsKindOf m.vars) (tokens_of es)

  more_kinds : (before : List Extension) (e : Extension) → KeepsRules m before e → AllKinds before → AllKinds (before ++ e ∷ [])
  more_kinds before e r k =
      subst (AllByRecursion (IsKindOf m.vars)) (sym (tokens-push before e))
      (each_both (IsKindOf m.vars) (tokens_of before) e.tokens k (each_from (KeepsOrderAt m before) (IsKindOf m.vars) (kind_of m before h) [] e.tokens (order_kept r).each))

  pub all_kinds : (es : List Extension) → EachAfter (KeepsRules m) [] es → AllKinds es
  all_kinds es r = snoc_induction AllKinds (KeepsRules m) more_kinds [] es tt r

  abbrev pub AllPoints : List Extension → Type 0
  AllPoints es = AllByRecursion (λ (t : Time). t.point.0 < count es) (fixed_of es)

  more_points : (before : List Extension) (e : Extension) → KeepsRules m before e → AllPoints before → AllPoints (before ++ e ∷ [])
  more_points before e r k =
      let P : Time → Type 0 = λ t. t.point.0 < count (before ++ e ∷ []) in
      let grows = count-push before e in
      subst (AllByRecursion P) (sym (fixed-push before e))
      (each_both P (fixed_of before) e.fixed
      (each_weaker (λ (t : Time). t.point.0 < count before) P (λ t b. omega (arith, b, grows)) (fixed_of before) k)
      (each_from (KeepsFixedAt before e) P (λ b t f. omega (arith, f.below, grows)) [] e.fixed (fixed_kept r).each))

  pub all_points : (es : List Extension) → EachAfter (KeepsRules m) [] es → AllPoints es
  all_points es r = snoc_induction AllPoints (KeepsRules m) more_points [] es tt r

  abbrev pub AllTimes : List Extension → Type 0
  AllTimes es = AllByRecursion (λ (t : Time). InRange whole t.at) (fixed_of es)

  more_times : (before : List Extension) (e : Extension) → KeepsRules m before e → AllTimes before → AllTimes (before ++ e ∷ [])
  more_times before e r k =
      let P : Time → Type 0 = λ t. InRange whole t.at in
      let high = (fixed_kept r).since.1 in
      subst (AllByRecursion P) (sym (fixed-push before e))
      (each_both P (fixed_of before) e.fixed k
      (each_from (KeepsFixedAt before e) P (λ b t f. let upper = f.at.1 in (f.at.0, omega (arith, ints, upper, high))) [] e.fixed (fixed_kept r).each))

  pub all_times : (es : List Extension) → EachAfter (KeepsRules m) [] es → AllTimes es
  all_times es r = snoc_induction AllTimes (KeepsRules m) more_times [] es tt r

  -- the bounds of a plan that keeps its rules can be made
  pub within : (es : List Extension) → EachAfter (KeepsRules m) [] es → IsWithin m es
  within es r = record { kinds = all_kinds es r; points = all_points es r; times = all_times es r; since = each_from (KeepsRules m) (λ (e : Extension). InRange whole e.since) (λ b e k. (fixed_kept k).since) [] es r }

  abbrev pub AreFew : List Extension → Type 0
  AreFew es = (length es ≤ length m.horizons) × (length (tokens_of es) ≤ length es * 128)

  more_few : (before : List Extension) (e : Extension) → KeepsRules m before e → AreFew before → AreFew (before ++ e ∷ [])
  more_few before e r k =
      let left = (base_kept r).horizon_left in
      let tokens = (limits_kept r).tokens in
      let size = length-append before (e ∷ []) in
      let many = ap length (tokens-push before e) ∙ length-append (tokens_of before) e.tokens in
      let old = k.1 in
      (omega (arith, left, size), omega (arith, tokens, size, many, old))

  few : (es : List Extension) → EachAfter (KeepsRules m) [] es → AreFew es
  few es r = snoc_induction AreFew (KeepsRules m) more_few [] es (omega arith, omega arith) r

  -- it has few points
  pub few_points : (es : List Extension) → EachAfter (KeepsRules m) [] es → count es ≤ 131072
  few_points es r =
      let f = few es r in
      let a = f.0 in
      let b = f.1 in
      let c = h.few_horizons in
      omega (arith, a, b, c, count_is es)

  pub few_extensions : (es : List Extension) → EachAfter (KeepsRules m) [] es → length es ≤ 1000
  few_extensions es r = let a = (few es r).0 in let c = h.few_horizons in omega (arith, a, c)

  pub few_tokens : (es : List Extension) → EachAfter (KeepsRules m) [] es → length (tokens_of es) ≤ 128000
  few_tokens es r =
      let f = few es r in
      let a = f.0 in
      let b = f.1 in
      let c = h.few_horizons in
      omega (arith, a, b, c)

  abbrev pub AllNeeds : List Extension → Type 0
  AllNeeds es = KeepsNeeds m es

  -- all needs of the plan are served or wait
  pub all_needs : (es : List Extension) → EachAfter (KeepsRules m) [] es → KeepsNeeds m es
  all_needs es r = snoc_induction AllNeeds (KeepsRules m) (λ before e k old. needs_kept k) [] es (record { each = λ t i n is. absurd (cc) }) r

-- the tokens of a plan are of the mission's variables
abbrev pub AreInside : Mission → List Extension → Type 0
AreInside m es = AllByRecursion (λ (k : Kind). k.sv.0 < length m.vars) (tokens_of es)

-- also with an extension whose tokens are in order
pub inside_next : (m : Mission) (es : List Extension) (e : Extension) → EachAfter (KeepsRules m) [] es → KeepsOrder m es e → AreInside m (joined es e)
inside_next m es e rules kept =
    let P : Kind → Type 0 = λ k. k.sv.0 < length m.vars in
    subst (AllByRecursion P) (sym (tokens-push es e))
    (each_both P (tokens_of es) e.tokens (tokens_inside m es rules)
    (each_from (KeepsOrderAt m es) P (λ new k o. slice_get_within m.vars k.sv.0 o.var o.is_var) [] e.tokens kept.each))

-- the fixed times of an extension are times
pub times_of_next : (m : Mission) (es : List Extension) (e : Extension) (k : ℕ) (d : Time) → KeepsRules m es e → k < length e.fixed → pos 0 ≤ℤ (get_or e.fixed k d).at
times_of_next m es e k d kept below = each_at (λ (t : Time). pos 0 ≤ℤ t.at) e.fixed k (get_or e.fixed k d) (each_from (KeepsFixedAt es e) (λ (t : Time). pos 0 ≤ℤ t.at) (λ b t f. f.at.0) [] e.fixed (fixed_kept kept).each) (slice_get-get_or e.fixed k d below)

-- the plan without extension is checked
pub none_checked : (m : Mission) → IsMission m → Checked m []
none_checked m h = record { mission = h; schedule = λ x. pos 0; meets = record { origin = refl; each = tt }; rules = tt }
