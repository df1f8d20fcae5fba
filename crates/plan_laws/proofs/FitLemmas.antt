-- The bounds of a plan that keeps its rules are fit for distances.
use Rattle.std.proofs.Common.{◌≡◌, ℕ, zero, suc, ◌+◌, ◌-◌, ◌<◌, ◌≤◌, pos, cond, List, [], ◌∷◌, ◌++◌, length, Option, Some, None, refl, sym, ap, ◌∙◌, subst, arith, append_assoc, inl, inr, length-append}
use Rattle.std.proofs.lemmas.Int.{ints}
use Rattle.std.proofs.lemmas.Bool.{cases_Bool}
use Rattle.std.proofs.lemmas.Option.{slice_get_within}
use Rattle.std.specs.Prelude.{slice_get, flat_map, neg_ℤ}
use Rattle.std.specs.List.{AllByRecursion}
use Rattle.hs_base.specs.declared.limits.TheConstants.{LAST}
use Rattle.hs_base.specs.declared.range.Range.{Range}
use Rattle.hs_base.specs.declared.relation.Relation.{Relation}
use Rattle.hs_base.specs.declared.relation.Relation.TheVariants.{Before, After, Meets as MeetsStart, MetBy, Starts, Ends, Equals, Contains as Encloses, ContainedBy}
use Rattle.hs_base.specs.declared.net.Bound.{Bound}
use Rattle.hs_base.specs.declared.mission.Kind.{Kind}
use Rattle.hs_base.specs.declared.mission.Value.{Value}
use Rattle.hs_base.specs.declared.mission.Choice.{Choice}
use Rattle.hs_base.specs.declared.mission.Goal.{Goal}
use Rattle.hs_base.specs.declared.mission.Horizon.{Horizon}
use Rattle.hs_base.specs.declared.mission.Mission.{Mission}
use Rattle.hs_base.specs.declared.plan.Time.{Time}
use Rattle.hs_base.specs.declared.plan.TokenRef.{TokenRef}
use Rattle.hs_base.specs.declared.plan.Support.{Support}
use Rattle.hs_base.specs.declared.plan.Extension.{Extension}
use Rattle.hs_base.specs.Walks.{EachAfter}
use Rattle.hs_base.specs.Schedule.{Implied, bound, numbers_from}
use Rattle.hs_base.specs.Ranges.{range, whole, IsRange}
use Rattle.hs_base.specs.Points.{tokens_of, timeline_of, refs_after, count, start_at, start, stop, hor, token_at, value_of}
use Rattle.hs_base.specs.Needs.{need_at, choice_by}
use Rattle.hs_base.specs.Bounds.{apart, exactly, on_some, relation_bounds, is_fixed, goals_of, new_bounds, bounds_of, horizon_bounds, point_bounds, length_bounds, start_bounds, last_bound, last_bounds, support_bounds, goal_bounds, fixed_bounds, since_bounds}
use Rattle.hs_base.specs.Missions.{IsGoal, IsMission, HasRanges}
use Rattle.hs_base.specs.Checked.{IsEntryOf, KeepsFixedAt, KeepsRules}
use Rattle.hs_base.proofs.RuleLemmas.{fixed_kept, goals_kept}
use Rattle.base_laws.proofs.ListLemmas.{each_both, each_weaker, snoc_induction, join_after-push}
use Rattle.base_laws.proofs.MissionLemmas.{value_is, choice_ranges, horizon_is}
use Rattle.base_laws.proofs.PointLemmas.{named, count-push, horizon_number, timeline-append, length-timeline_own, tokens-push}
use Rattle.plan_laws.proofs.NeedLemmas.{need_found}
use Rattle.plan_laws.proofs.LengthLemmas.{points_in}
use Rattle.plan_laws.specs.Fit.{IsFit}

-- two points and a range
fit_apart : (c x y : ℕ) (r : Range) → x < c → y < c → IsRange (pos 0) r → AllByRecursion (IsFit c) (apart x y r)
fit_apart c x y r below under is = (
  record { from = under; to = below; least = omega (arith, ints, is.0, is.1, is.2); most = is.2 },
  (record { from = below; to = under; least = omega (arith, ints, is.1, is.2); most = omega (arith, ints, is.0) }, tt),
)

fit_together : (c x y : ℕ) → x < c → y < c → AllByRecursion (IsFit c) (apart x y (range (pos 0) (pos 0)))
fit_together c x y below under = fit_apart c x y (range (pos 0) (pos 0)) below under (omega (arith, ints), omega (arith, ints), omega (arith, ints))

fit_relation : (c x x' y y' : ℕ) (r : Relation) → x < c → x' < c → y < c → y' < c → HasRanges r → AllByRecursion (IsFit c) (relation_bounds r x x' y y')
fit_relation c x x' y y' (Before r) a b d e h = fit_apart c y x' r d b h
fit_relation c x x' y y' (After r) a b d e h = fit_apart c x y' r a e h
fit_relation c x x' y y' MeetsStart a b d e h = fit_together c y x' d b
fit_relation c x x' y y' MetBy a b d e h = fit_together c x y' a e
fit_relation c x x' y y' (Starts r) a b d e h = fit_apart c y x r d a h
fit_relation c x x' y y' (Ends r) a b d e h = fit_apart c y' x' r e b h
fit_relation c x x' y y' Equals a b d e h = let p = fit_together c y x d a in let q = fit_together c y' x' e b in (p.0, (p.1.0, (q.0, (q.1.0, tt))))
fit_relation c x x' y y' (Encloses r t) a b d e h = let p = fit_apart c y x r d a h.0 in let q = fit_apart c x' y' t b e h.1 in (p.0, (p.1.0, (q.0, (q.1.0, tt))))
fit_relation c x x' y y' (ContainedBy r t) a b d e h = let p = fit_apart c x y r a d h.0 in let q = fit_apart c y' x' t e b h.1 in (p.0, (p.1.0, (q.0, (q.1.0, tt))))

-- what holds of all that each gives
each_flat_map : {X Y : Type 0} (P : Y → Type 0) (f : X → List Y) (xs : List X) → AllByRecursion (λ x. AllByRecursion P (f x)) xs → AllByRecursion P (flat_map f xs)
each_flat_map P f [] h = tt
each_flat_map P f (x ∷ xs) h = each_both P (f x) (flat_map f xs) h.0 (each_flat_map P f xs h.1)

each_all : {X : Type 0} (P : X → Type 0) → ((x : X) → P x) → (xs : List X) → AllByRecursion P xs
each_all P f [] = tt
each_all P f (x ∷ xs) = (f x, each_all P f xs)

-- the numbers from a on, n of them, are below a + n
numbers_below : (a n : ℕ) → AllByRecursion (λ x. (a ≤ x) × (x < a + n)) (numbers_from a n)
numbers_below a zero = tt
numbers_below a (suc n) = (
  (omega arith, omega arith),
  each_weaker (λ x. (a + 1 ≤ x) × (x < a + 1 + n)) (λ x. (a ≤ x) × (x < a + suc n)) (λ x h. (omega (arith, h.0), omega (arith, h.1))) (numbers_from (a + 1) n) (numbers_below (a + 1) n),
)

-- where a value is given
each_on : {X : Type 0} (P : Bound → Type 0) (o : Option X) (f : X → List Bound) → ((x : X) → o ≡ Some x → AllByRecursion P (f x)) → AllByRecursion P (on_some o f)
each_on P None f h = tt
each_on P (Some x) f h = h x refl

-- the ends of a token of the plan are points
stop_below : (es : List Extension) (t : TokenRef) (k : Kind) → token_at es t ≡ Some k → stop es t < count es
stop_below es t k is = (named es).ends_there t.sv.0 t.place (slice_get_within (timeline_of (tokens_of es) t.sv.0) t.place k is)

start_below_at : (es : List Extension) (v i : ℕ) → i ≤ length (timeline_of (tokens_of es) v) → start_at es v i < count es
start_below_at es v zero inside = omega arith
start_below_at es v (suc i) inside = (named es).ends_there v i (omega arith)

start_below : (es : List Extension) (t : TokenRef) (k : Kind) → token_at es t ≡ Some k → start es t < count es
start_below es t k is =
    let inside = slice_get_within (timeline_of (tokens_of es) t.sv.0) t.place k is in
    start_below_at es t.sv.0 t.place (omega arith)

-- new tokens are tokens of the plan
refs_there : (ts us : List Kind) → AllByRecursion (λ (t : TokenRef). t.place < length (timeline_of (ts ++ us) t.sv.0)) (refs_after ts us)
refs_there ts [] = tt
refs_there ts (u ∷ us) =
    let here : length (timeline_of ts u.sv.0) < length (timeline_of (ts ++ u ∷ us) u.sv.0) = omega (arith, ap length (ap (λ l. timeline_of l u.sv.0) (sym (append_assoc ts (u ∷ []) us)) ∙ timeline-append (ts ++ u ∷ []) us u.sv.0), length-append (timeline_of (ts ++ u ∷ []) u.sv.0) (timeline_of us u.sv.0), length-timeline_own ts u) in
    (here, subst (λ (l : List Kind). AllByRecursion (λ (t : TokenRef). t.place < length (timeline_of l t.sv.0)) (refs_after (ts ++ u ∷ []) us)) (append_assoc ts (u ∷ []) us) (refs_there (ts ++ u ∷ []) us))

module _ (m : Mission) (mission : IsMission m) (before : List Extension) (e : Extension) (rules : KeepsRules m before e) where
  abbrev pub es : List Extension
  es = before ++ e ∷ []

  abbrev pub c : ℕ
  c = count es

  abbrev pub k : ℕ
  k = length before + 1

  grows : count before < c
  grows = omega (arith, count-push before e)

  mark_below : hor es k < c
  mark_below = omega (arith, horizon_number before e, grows)

  horizons : AllByRecursion (IsFit c) (horizon_bounds m es k)
  horizons = each_on (IsFit c) (slice_get m.horizons (k - 1)) (λ (g : Horizon). exactly (hor es k) g.tick) (λ g is.
      let tick = (horizon_is m (k - 1) g mission is).tick in
      fit_apart c (hor es k) 0 (range g.tick g.tick) mark_below (omega arith) (omega (arith, ints, tick.0), omega (arith, ints), omega (arith, ints, tick.1)))

  points : AllByRecursion (IsFit c) (point_bounds (count before) (c - count before))
  points =
      each_flat_map (IsFit c) (λ x. apart x 0 whole) (numbers_from (count before) (c - count before))
      (each_weaker (λ x. (count before ≤ x) × (x < count before + (c - count before))) (λ x. AllByRecursion (IsFit c) (apart x 0 whole)) (λ x h. fit_apart c x 0 whole (omega (arith, h.1, grows)) (omega arith) (omega (arith, ints), omega (arith, ints), omega (arith, ints))) (numbers_from (count before) (c - count before)) (numbers_below (count before) (c - count before)))

  lengths : (new : List TokenRef) → AllByRecursion (IsFit c) (length_bounds m es new)
  lengths new =
      each_flat_map (IsFit c) (λ t. on_some (token_at es t) (λ k. on_some (value_of m k) (λ (v : Value). apart (stop es t) (start es t) v.lasts))) new
      (each_all (λ t. AllByRecursion (IsFit c) (on_some (token_at es t) (λ k. on_some (value_of m k) (λ (v : Value). apart (stop es t) (start es t) v.lasts)))) each new)
    where
      each : (t : TokenRef) → AllByRecursion (IsFit c) (on_some (token_at es t) (λ k. on_some (value_of m k) (λ (v : Value). apart (stop es t) (start es t) v.lasts)))
      each t = each_on (IsFit c) (token_at es t) (λ k. on_some (value_of m k) (λ (v : Value). apart (stop es t) (start es t) v.lasts)) (λ kd at.
          each_on (IsFit c) (value_of m kd) (λ (v : Value). apart (stop es t) (start es t) v.lasts) (λ v is.
          let lasts = (value_is m kd v mission is).1.lasts in
          fit_apart c (stop es t) (start es t) v.lasts (stop_below es t kd at) (start_below es t kd at) (omega (arith, ints, lasts.0), lasts.1, lasts.2)))

  starts : AllByRecursion (IsFit c) (start_bounds es k (refs_after (tokens_of before) e.tokens))
  starts = walk (refs_after (tokens_of before) e.tokens) (subst (λ (l : List Kind). AllByRecursion (λ (t : TokenRef). t.place < length (timeline_of l t.sv.0)) (refs_after (tokens_of before) e.tokens)) (sym (tokens-push before e)) (refs_there (tokens_of before) e.tokens))
    where
      walk : (new : List TokenRef) → AllByRecursion (λ (t : TokenRef). t.place < length (timeline_of (tokens_of es) t.sv.0)) new → AllByRecursion (IsFit c) (start_bounds es k new)
      walk [] h = tt
      walk (t ∷ new) h = (record { from = mark_below; to = start_below_at es t.sv.0 t.place (omega (arith, h.0)); least = omega (arith, ints); most = omega (arith, ints) }, walk new h.1)

  lasts : AllByRecursion (IsFit c) (last_bounds m es k)
  lasts = each_flat_map (IsFit c) (λ v. last_bound es k v (length (timeline_of (tokens_of es) v))) (numbers_from 0 (length m.vars)) (each_all (λ v. AllByRecursion (IsFit c) (last_bound es k v (length (timeline_of (tokens_of es) v)))) (λ v. by_size v (length (timeline_of (tokens_of es) v)) refl) (numbers_from 0 (length m.vars)))
    where
      by_size : (v size : ℕ) → length (timeline_of (tokens_of es) v) ≡ size → AllByRecursion (IsFit c) (last_bound es k v size)
      by_size v zero is = tt
      by_size v (suc i) is = (record { from = (named es).ends_there v i (omega arith); to = mark_below; least = omega (arith, ints); most = omega (arith, ints) }, tt)

  supports : (ss : List Support) → AllByRecursion (IsFit c) (support_bounds m es ss)
  supports ss = each_flat_map (IsFit c) _ ss (each_all _ each ss)
    where
      each : (s : Support) → AllByRecursion (IsFit c) (on_some (need_at m es s.token s.need) (λ n. on_some (token_at es s.by) (λ k. on_some (choice_by n k) (λ (x : Choice). relation_bounds x.relation (start es s.token) (stop es s.token) (start es s.by) (stop es s.by)))))
      each s = each_on (IsFit c) (need_at m es s.token s.need) _ (λ n is.
          let f = need_found m es s.token s.need n is in
          each_on (IsFit c) (token_at es s.by) _ (λ kd at.
          each_on (IsFit c) (choice_by n kd) _ (λ x found.
          fit_relation c (start es s.token) (stop es s.token) (start es s.by) (stop es s.by) x.relation (start_below es s.token f.0 f.1) (stop_below es s.token f.0 f.1) (start_below es s.by kd at) (stop_below es s.by kd at) (choice_ranges m f.0 kd s.need n x mission f.2 found))))

  goals : (gs : List Goal) (ts : List TokenRef) → AllByRecursion (IsGoal m.vars) gs → ((i : ℕ) → IsEntryOf es (slice_get gs i) (slice_get ts i)) → AllByRecursion (IsFit c) (goal_bounds es gs ts)
  goals [] ts is entry = tt
  goals (g ∷ gs) [] is entry = tt
  goals (g ∷ gs) (t ∷ ts) is entry =
      each_both (IsFit c) (apart (start es t) 0 g.start ++ apart (stop es t) 0 g.stop) (goal_bounds es gs ts)
      (each_both (IsFit c) (apart (start es t) 0 g.start) (apart (stop es t) 0 g.stop) (fit_apart c (start es t) 0 g.start (start_below es t g.kind (entry 0)) (omega arith) is.0.start) (fit_apart c (stop es t) 0 g.stop (stop_below es t g.kind (entry 0)) (omega arith) is.0.stop))
      (goals gs ts is.1 (λ i. entry (suc i)))

  goals_here : AllByRecursion (IsGoal m.vars) (goals_of m k)
  goals_here = by_case (slice_get m.horizons (k - 1)) refl
    where
      by_case : (o : Option Horizon) → slice_get m.horizons (k - 1) ≡ o → AllByRecursion (IsGoal m.vars) (on_some o (λ (g : Horizon). g.goals))
      by_case None is = tt
      by_case (Some g) is = (horizon_is m (k - 1) g mission is).goals

  fixed : (front ts : List Time) → EachAfter (KeepsFixedAt before e) front ts → AllByRecursion (IsFit c) (fixed_bounds ts)
  fixed front [] h = tt
  fixed front (t ∷ ts) h =
      each_both (IsFit c) (exactly t.point.0 t.at) (fixed_bounds ts)
      (fit_apart c t.point.0 0 (range t.at t.at) (omega (arith, h.0.below, grows)) (omega arith) (omega (arith, ints, h.0.at.0), omega (arith, ints), omega (arith, ints, h.0.at.1, (fixed_kept rules).since.1)))
      (fixed (front ++ t ∷ []) ts h.1)

  sinces : AllByRecursion (IsFit c) (since_bounds es e.since)
  sinces = each_flat_map (IsFit c) (λ x. cond (is_fixed es x) [] (bound x 0 (neg_ℤ e.since) ∷ [])) (numbers_from 1 (c - 1)) (each_weaker (λ x. (1 ≤ x) × (x < 1 + (c - 1))) (λ x. AllByRecursion (IsFit c) (cond (is_fixed es x) [] (bound x 0 (neg_ℤ e.since) ∷ []))) each (numbers_from 1 (c - 1)) (numbers_below 1 (c - 1)))
    where
      each : (x : ℕ) → (1 ≤ x) × (x < 1 + (c - 1)) → AllByRecursion (IsFit c) (cond (is_fixed es x) [] (bound x 0 (neg_ℤ e.since) ∷ []))
      each x h = elim (cases_Bool (is_fixed es x)) [
        | inl set ↦ rw set tt
        | inr free ↦ rw free (record { from = omega (arith, h.0, h.1); to = omega arith; least = omega (arith, ints, (fixed_kept rules).since.1); most = omega (arith, ints, (fixed_kept rules).since.0) }, tt)
      ]

  pub new_fit : AllByRecursion (IsFit c) (new_bounds m before e)
  new_fit =
      each_both (IsFit c) _ _ (each_both (IsFit c) _ _ (each_both (IsFit c) _ _ (each_both (IsFit c) _ _ (each_both (IsFit c) _ _ (each_both (IsFit c) _ _ (each_both (IsFit c) _ _ (each_both (IsFit c) _ _ horizons points) (lengths (refs_after (tokens_of before) e.tokens))) starts) lasts) (supports e.supports)) (goals (goals_of m k) e.goals goals_here (goals_kept rules).each)) (fixed [] e.fixed (fixed_kept rules).each)) sinces

-- all bounds of a plan that keeps its rules
pub bounds_fit : (m : Mission) (es : List Extension) → IsMission m → EachAfter (KeepsRules m) [] es → AllByRecursion (IsFit (count es)) (bounds_of m es)
bounds_fit m es mission rules = snoc_induction (λ es. AllByRecursion (IsFit (count es)) (bounds_of m es)) (KeepsRules m) step [] es tt rules
  where
    wider : (c d : ℕ) → c ≤ d → (b : Bound) → IsFit c b → IsFit d b
    wider c d less b h = record { from = omega (arith, h.from); to = omega (arith, h.to); least = h.least; most = h.most }

    step : (before : List Extension) (e : Extension) → KeepsRules m before e → AllByRecursion (IsFit (count before)) (bounds_of m before) → AllByRecursion (IsFit (count (before ++ e ∷ []))) (bounds_of m (before ++ e ∷ []))
    step before e r h =
        subst (AllByRecursion (IsFit (count (before ++ e ∷ [])))) (sym (join_after-push (new_bounds m) [] before e))
        (each_both (IsFit (count (before ++ e ∷ []))) (bounds_of m before) (new_bounds m before e) (each_weaker (IsFit (count before)) (IsFit (count (before ++ e ∷ []))) (wider (count before) (count (before ++ e ∷ [])) (omega (arith, count-push before e))) (bounds_of m before) h) (new_fit m mission before e r))

-- they hold each point within 0 to LAST of Z
pub after_origin : (m : Mission) (es : List Extension) (x : ℕ) → x < count es → Implied (bounds_of m es) x 0 (pos 0)
after_origin m es zero below = record { holds = λ s h. omega (arith, ints) }
after_origin m es (suc x) below = record { holds = λ s h. let r = (points_in m s es h).each (suc x) (omega arith) below in omega (arith, ints, r.0) }

pub before_last : (m : Mission) (es : List Extension) (x : ℕ) → x < count es → Implied (bounds_of m es) 0 x LAST
before_last m es zero below = record { holds = λ s h. omega (arith, ints) }
before_last m es (suc x) below = record { holds = λ s h. ((points_in m s es h).each (suc x) (omega arith) below).1 }
