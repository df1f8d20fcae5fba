-- In a schedule of a checked plan every goal has its token in time.
use Rattle.std.proofs.Common.{◌≡◌, ℕ, suc, ◌+◌, ◌-◌, ◌<◌, pos, List, [], ◌∷◌, ◌++◌, length, take, get_or, Some, refl, sym, ap, ◌∙◌, subst, arith, length-append}
use Rattle.std.proofs.lemmas.Int.{ints}
use Rattle.std.proofs.lemmas.List.{take_more}
use Rattle.std.proofs.lemmas.Option.{slice_get_within, slice_get-get_or}
use Rattle.std.specs.Prelude.{slice_get}
use Rattle.std.specs.List.{AllByRecursion}
use Rattle.hs_base.specs.declared.mission.Kind.{Kind}
use Rattle.hs_base.specs.declared.mission.Goal.{Goal}
use Rattle.hs_base.specs.declared.mission.Horizon.{Horizon}
use Rattle.hs_base.specs.declared.mission.Mission.{Mission}
use Rattle.hs_base.specs.declared.plan.TokenRef.{TokenRef}
use Rattle.hs_base.specs.declared.plan.Extension.{Extension}
use Rattle.hs_base.specs.Walks.{EachAfter}
use Rattle.hs_base.specs.Schedule.{Schedule, Meets, Holds}
use Rattle.hs_base.specs.Ranges.{InRange}
use Rattle.hs_base.specs.Points.{tokens_of, timeline_of, start, stop, token_at}
use Rattle.hs_base.specs.Bounds.{apart, on_some, new_bounds, IsScheduleOf, goals_of, goal_bounds}
use Rattle.hs_base.specs.Checked.{KeepsRules, IsEntryOf}
use Rattle.hs_base.proofs.RuleLemmas.{base_kept, goals_kept}
use Rattle.base_laws.proofs.ListLemmas.{each_split, each_both, each_weaker, snoc_induction, EachAfter-both, slice_get-append_left}
use Rattle.base_laws.proofs.PointLemmas.{timeline-append, tokens-push, ending_kept, start_kept}
use Rattle.plan_laws.proofs.LengthLemmas.{in_range, goal_part, each_extension}

-- a token of a plan is one of the plan with an extension more, and keeps its ends
pub token_kept : (before : List Extension) (e : Extension) (t : TokenRef) (k : Kind) → token_at before t ≡ Some k → token_at (before ++ e ∷ []) t ≡ Some k
token_kept before e t k is =
    ap (λ l. slice_get (timeline_of l t.sv.0) t.place) (tokens-push before e)
    ∙ ap (λ l. slice_get l t.place) (timeline-append (tokens_of before) e.tokens t.sv.0)
    ∙ slice_get-append_left (timeline_of (tokens_of before) t.sv.0) (timeline_of e.tokens t.sv.0) t.place (slice_get_within (timeline_of (tokens_of before) t.sv.0) t.place k is)
    ∙ is

pub stop_kept : (before : List Extension) (e : Extension) (t : TokenRef) (k : Kind) → token_at before t ≡ Some k → stop (before ++ e ∷ []) t ≡ stop before t
stop_kept before e t k is = ending_kept before e t.sv.0 t.place (slice_get_within (timeline_of (tokens_of before) t.sv.0) t.place k is)

pub begin_kept : (before : List Extension) (e : Extension) (t : TokenRef) (k : Kind) → token_at before t ≡ Some k → start (before ++ e ∷ []) t ≡ start before t
begin_kept before e t k is =
    let within = slice_get_within (timeline_of (tokens_of before) t.sv.0) t.place k is in
    start_kept before e t.sv.0 t.place (omega arith)

-- a token of the goal's kind is in its ranges
pub record GoalAt (es : List Extension) (s : Schedule) (g : Goal) : Type 0 where
  pub token : TokenRef
  pub is : token_at es token ≡ Some g.kind
  pub start : InRange g.start (s (start es token))
  pub stop : InRange g.stop (s (stop es token))

goal_kept : (s : Schedule) (before : List Extension) (e : Extension) (g : Goal) → GoalAt before s g → GoalAt (before ++ e ∷ []) s g
goal_kept s before e g h = record {
  token = h.token;
  is = token_kept before e h.token g.kind h.is;
  start = subst (λ (x : ℕ). InRange g.start (s x)) (sym (begin_kept before e h.token g.kind h.is)) h.start;
  stop = subst (λ (x : ℕ). InRange g.stop (s x)) (sym (stop_kept before e h.token g.kind h.is)) h.stop;
}

-- the goals of one horizon
goals_new : (es : List Extension) (s : Schedule) (gs : List Goal) (ts : List TokenRef) → s 0 ≡ pos 0 → ((i : ℕ) → IsEntryOf es (slice_get gs i) (slice_get ts i)) → AllByRecursion (Holds s) (goal_bounds es gs ts) → AllByRecursion (GoalAt es s) gs
goals_new es s [] ts at entry h = tt
goals_new es s (g ∷ gs) [] at entry h = absurd (entry 0)
goals_new es s (g ∷ gs) (t ∷ ts) at entry h =
    let rest = each_split (Holds s) (apart (start es t) 0 g.start ++ apart (stop es t) 0 g.stop) (goal_bounds es gs ts) h in
    let ends = each_split (Holds s) (apart (start es t) 0 g.start) (apart (stop es t) 0 g.stop) rest.0 in
    let from = in_range s (start es t) 0 g.start ends.0 in
    let to = in_range s (stop es t) 0 g.stop ends.1 in (
      record { token = t; is = entry 0; start = (omega (arith, ints, from.0, at), omega (arith, ints, from.1, at)); stop = (omega (arith, ints, to.0, at), omega (arith, ints, to.1, at)) },
      goals_new es s gs ts at (λ i. entry (suc i)) rest.1,
    )

-- the goals of all planned horizons
pub record GoalsAt (m : Mission) (s : Schedule) (es : List Extension) : Type 0 where
  pub each : AllByRecursion (λ (g : Horizon). AllByRecursion (GoalAt es s) g.goals) (take (length es) m.horizons)

goals-push : (m : Mission) (s : Schedule) (before : List Extension) (e : Extension) → KeepsRules m before e → Meets (new_bounds m before e) s → GoalsAt m s before → GoalsAt m s (before ++ e ∷ [])
goals-push m s before e rules h p = by_horizon m.horizons refl (base_kept rules).horizon_left
  where
    -- some horizon is left, so the list of horizons has one
    by_horizon : (hs : List Horizon) → hs ≡ m.horizons → length before < length m.horizons → GoalsAt m s (before ++ e ∷ [])
    by_horizon [] is below = absurd (omega (arith, ap length is))
    by_horizon (d ∷ hs) is below =
        let es = before ++ e ∷ [] in
        let k = length before + 1 in
        let g = get_or m.horizons (length before) d in
        let here : slice_get m.horizons (length before) ≡ Some g = slice_get-get_or m.horizons (length before) d below in
        let at : length before ≡ k - 1 = omega arith in
        let goals : goals_of m k ≡ g.goals = ap (λ i. on_some (slice_get m.horizons i) (λ (x : Horizon). x.goals)) (sym at) ∙ ap (λ o. on_some o (λ (x : Horizon). x.goals)) here in
        let new : AllByRecursion (GoalAt es s) g.goals = subst (λ (l : List Goal). AllByRecursion (GoalAt es s) l) goals (goals_new es s (goals_of m k) e.goals h.origin (goals_kept rules).each (goal_part m s before e h).each) in
        let old : AllByRecursion (λ (x : Horizon). AllByRecursion (GoalAt es s) x.goals) (take (length before) m.horizons) = each_weaker (λ (x : Horizon). AllByRecursion (GoalAt before s) x.goals) (λ (x : Horizon). AllByRecursion (GoalAt es s) x.goals) (λ x q. each_weaker (GoalAt before s) (GoalAt es s) (goal_kept s before e) x.goals q) (take (length before) m.horizons) p.each in
        let size : take (length es) m.horizons ≡ take (length before) m.horizons ++ g ∷ [] = ap (λ n. take n m.horizons) (length-append before (e ∷ [])) ∙ take_more m.horizons (length before) d below in
        record { each = subst (λ (l : List Horizon). AllByRecursion (λ (x : Horizon). AllByRecursion (GoalAt es s) x.goals) l) (sym size) (each_both (λ (x : Horizon). AllByRecursion (GoalAt es s) x.goals) (take (length before) m.horizons) (g ∷ []) old (new, tt)) }

no_goals : (m : Mission) (s : Schedule) → GoalsAt m s []
no_goals m s = record { each = tt }

pub goals_at : (m : Mission) (s : Schedule) (es : List Extension) → EachAfter (KeepsRules m) [] es → IsScheduleOf m es s → GoalsAt m s es
goals_at m s es rules h = snoc_induction (GoalsAt m s) (λ b e. KeepsRules m b e × Meets (new_bounds m b e) s) (λ b e r p. goals-push m s b e r.0 r.1 p) [] es (no_goals m s) (EachAfter-both (KeepsRules m) (λ b e. Meets (new_bounds m b e) s) [] es rules (each_extension m s [] es h))
