-- In a schedule of a checked plan every token starts before the horizon, and every timeline ends after it.
use Rattle.std.proofs.Common.{◌≡◌, ℕ, suc, ◌+◌, ◌-◌, ◌<◌, List, [], ◌∷◌, ◌++◌, length, get_or, Option, Some, sym, ap, ◌∙◌, subst, arith, inl, inr, length-append}
use Rattle.std.proofs.lemmas.Int.{ints}
use Rattle.std.proofs.lemmas.Bool.{cases_lt}
use Rattle.std.proofs.lemmas.Option.{slice_get_within, slice_get-get_or, slice_get-map}
use Rattle.std.specs.Prelude.{slice_get, ◌<ℤ◌, negsuc, map, option_map}
use Rattle.std.specs.List.{AllByRecursion}
use Rattle.hs_base.specs.declared.net.Bound.{Bound}
use Rattle.hs_base.specs.declared.mission.Horizon.{Horizon}
use Rattle.hs_base.specs.declared.mission.Mission.{Mission}
use Rattle.hs_base.specs.declared.plan.TokenRef.{TokenRef}
use Rattle.hs_base.specs.declared.plan.Extension.{Extension}
use Rattle.hs_base.specs.Schedule.{Schedule, Meets, Holds, bound, numbers_from}
use Rattle.hs_base.specs.Ranges.{range}
use Rattle.hs_base.specs.Points.{ending, tokens_of, timeline_of, refs_after, points_of, place_of, start_at, start, hor}
use Rattle.hs_base.specs.Bounds.{on_some, exactly, new_bounds, IsScheduleOf, last_bound}
use Rattle.hs_base.specs.Missions.{IsMission}
use Rattle.base_laws.proofs.ListLemmas.{each_at, each_flat, in_order, snoc_induction}
use Rattle.base_laws.proofs.PointLemmas.{start_kept}
use Rattle.plan_laws.proofs.LengthLemmas.{in_range, horizon_part, start_part, last_part, each_extension, new_token, number_at}

-- a plan with a token has an extension
some_extension : (es : List Extension) (v i : ℕ) → i < length (timeline_of (tokens_of es) v) → 0 < length es
some_extension [] v i below = absurd (omega arith)
some_extension (e ∷ es) v i below = omega arith

-- the horizon's point is at the horizon
pub horizon_time : (m : Mission) (s : Schedule) (before : List Extension) (e : Extension) (g : Horizon) → Meets (new_bounds m before e) s → slice_get m.horizons (length before) ≡ Some g → s (hor (before ++ e ∷ []) (length before + 1)) ≡ g.tick
horizon_time m s before e g h is =
    let k = length before + 1 in
    let at : length before ≡ k - 1 = omega arith in
    let found : slice_get m.horizons (k - 1) ≡ Some g = ap (slice_get m.horizons) (sym at) ∙ is in
    let part = horizon_part m s before e h in
    let bounds : AllByRecursion (Holds s) (exactly (hor (before ++ e ∷ []) k) g.tick) = subst (λ (o : Option Horizon). AllByRecursion (Holds s) (on_some o (λ (x : Horizon). exactly (hor (before ++ e ∷ []) k) x.tick))) found part.each in
    let r = in_range s (hor (before ++ e ∷ []) k) 0 (range g.tick g.tick) bounds in
    omega (arith, ints, r.0, r.1, h.origin)

-- every token starts before the horizon of the plan's last extension
pub record StartsIn (m : Mission) (s : Schedule) (es : List Extension) : Type 0 where
  pub each : (g : Horizon) (v i : ℕ) → slice_get m.horizons (length es - 1) ≡ Some g → i < length (timeline_of (tokens_of es) v) → s (start_at es v i) <ℤ g.tick

starts-push : (m : Mission) (s : Schedule) (before : List Extension) (e : Extension) → IsMission m → Meets (new_bounds m before e) s → StartsIn m s before → StartsIn m s (before ++ e ∷ [])
starts-push m s before e mission h p = record { each = each }
  where
    each : (g : Horizon) (v i : ℕ) → slice_get m.horizons (length (before ++ e ∷ []) - 1) ≡ Some g → i < length (timeline_of (tokens_of (before ++ e ∷ [])) v) → s (start_at (before ++ e ∷ []) v i) <ℤ g.tick
    each g v i is below =
        let size : length (before ++ e ∷ []) - 1 ≡ length before = omega (arith, length-append before (e ∷ [])) in
        let here : slice_get m.horizons (length before) ≡ Some g = ap (slice_get m.horizons) (sym size) ∙ is in
        elim (cases_lt i (length (timeline_of (tokens_of before) v))) [
          | inl old ↦
              let some = some_extension before v i old in
              let last = slice_get_within m.horizons (length before) g here in
              let prior = get_or m.horizons (length before - 1) g in
              let at : slice_get m.horizons (length before - 1) ≡ Some prior = slice_get-get_or m.horizons (length before - 1) g (omega arith) in
              let rises : prior.tick <ℤ g.tick = in_order (λ (a b : Horizon). a.tick <ℤ b.tick) m.horizons (length before - 1) (length before) prior g mission.rising at here (omega arith) in
              omega (arith, ints, p.each prior v i at old, rises, ap s (start_kept before e v i (omega arith)))
          | inr new ↦
              let es = before ++ e ∷ [] in
              let k = length before + 1 in
              let r = new_token before e v i new below in
              let f : TokenRef → Bound = λ t. bound (hor es k) (start es t) (negsuc 0) in
              let at : slice_get (map f (refs_after (tokens_of before) e.tokens)) r.0 ≡ Some (f (record { sv = record { 0 = v }; place = i })) = slice_get-map f (refs_after (tokens_of before) e.tokens) r.0 ∙ ap (option_map f) r.1 in
              let less = each_at (Holds s) (map f (refs_after (tokens_of before) e.tokens)) r.0 (f (record { sv = record { 0 = v }; place = i })) (start_part m s before e h).each at in
              omega (arith, ints, less, horizon_time m s before e g h here)
        ]

no_starts : (m : Mission) (s : Schedule) → StartsIn m s []
no_starts m s = record { each = λ g v i is below. absurd (omega arith) }

pub starts_in : (m : Mission) (s : Schedule) (es : List Extension) → IsMission m → IsScheduleOf m es s → StartsIn m s es
starts_in m s es mission h = snoc_induction (StartsIn m s) (λ b e. Meets (new_bounds m b e) s) (λ b e r p. starts-push m s b e mission r p) [] es (no_starts m s) (each_extension m s [] es h)

-- every timeline ends after the horizon of the plan's last extension
pub record EndsIn (m : Mission) (s : Schedule) (es : List Extension) : Type 0 where
  pub each : (g : Horizon) (v i : ℕ) → slice_get m.horizons (length es - 1) ≡ Some g → v < length m.vars → suc i ≡ length (timeline_of (tokens_of es) v) → g.tick <ℤ s (place_of (ending v i) (points_of es))

ends-push : (m : Mission) (s : Schedule) (before : List Extension) (e : Extension) → Meets (new_bounds m before e) s → EndsIn m s (before ++ e ∷ [])
ends-push m s before e h = record { each = each }
  where
    each : (g : Horizon) (v i : ℕ) → slice_get m.horizons (length (before ++ e ∷ []) - 1) ≡ Some g → v < length m.vars → suc i ≡ length (timeline_of (tokens_of (before ++ e ∷ [])) v) → g.tick <ℤ s (place_of (ending v i) (points_of (before ++ e ∷ [])))
    each g v i is below last =
        let es = before ++ e ∷ [] in
        let k = length before + 1 in
        let size : length es - 1 ≡ length before = omega (arith, length-append before (e ∷ [])) in
        let here : slice_get m.horizons (length before) ≡ Some g = ap (slice_get m.horizons) (sym size) ∙ is in
        let time = horizon_time m s before e g h here in
        let at : slice_get (numbers_from 0 (length m.vars)) v ≡ Some v = number_at 0 (length m.vars) v below ∙ (let e : 0 + v ≡ v = omega arith in ap Some e) in
        let bounds = each_flat (Holds s) (λ v. last_bound es k v (length (timeline_of (tokens_of es) v))) (numbers_from 0 (length m.vars)) v v (last_part m s before e h).each at in
        let one : AllByRecursion (Holds s) (last_bound es k v (suc i)) = subst (λ (n : ℕ). AllByRecursion (Holds s) (last_bound es k v n)) (sym last) bounds in
        omega (arith, ints, time, one.0)

no_ends : (m : Mission) (s : Schedule) → EndsIn m s []
no_ends m s = record { each = λ g v i is below last. absurd (omega arith) }

pub ends_in : (m : Mission) (s : Schedule) (es : List Extension) → IsScheduleOf m es s → EndsIn m s es
ends_in m s es h = snoc_induction (EndsIn m s) (λ b e. Meets (new_bounds m b e) s) (λ b e r p. ends-push m s b e r) [] es (no_ends m s) (each_extension m s [] es h)
