-- What a whole run is, with a plan and without one.
use Rattle.std.proofs.Common.{◌≡◌, ◌⊎◌, ℕ, ◌+◌, ◌<◌, ◌^◌, true, false, Bool, cond, List, [], ◌∷◌, length, Option, Some, None, refl, sym, ap, ◌∙◌, subst, arith, inl, inr, pos}
use Rattle.std.specs.Prelude.{ℤ}
use Rattle.std.specs.List.{AllByRecursion, cons_option}
use Rattle.hs_base.specs.declared.mission.Mission.{Mission}
use Rattle.hs_base.specs.declared.plan.Extension.{Extension}
use Rattle.hs_base.specs.declared.plan.Time.{Time}
use Rattle.hs_base.specs.Missions.{IsMission}
use Rattle.hs_machine.specs.declared.history.Entry.{Entry}
use Rattle.hs_machine.specs.declared.history.Phase.{Phase}
use Rattle.hs_machine.specs.declared.history.Phase.TheVariants.{Ended, Failed, Running, Waiting}
use Rattle.hs_machine.specs.Machine.{is_over}
use Rattle.hs_machine.specs.Reports.{Polls}
use Rattle.hs_machine.specs.State.{count_at, has_failed, phase_of, plan_of}
use Rattle.run_laws.proofs.CheckedLemmas.{run_checked}
use Rattle.search_tree.specs.Search.{FindsPlan, FindsWhere}
use Rattle.search_tree.specs.Tree.{Found, budget, no_plan, plan}
use Rattle.search_laws.proofs.TreeLemmas.{all_taken}
use Rattle.plan_check.specs.Planned.{Planned as Plan}
use Rattle.plan_check.proofs.WithinLemmas.{few_points}
use Rattle.plan_search.specs.First.{IsPlanned, IsUnplanned, outset}
use Rattle.plan_search.specs.declared.unplanned.Unplanned.{Unplanned}
use Rattle.plan_search.specs.declared.unplanned.Unplanned.TheVariants as why
use Rattle.exec_core.specs.Recorded.{Recorded}
use Rattle.simulation_laws.specs.Ended.{Adds, AreAdded, Heard, takes_all}
use Rattle.simulation_laws.specs.Planned.{AreInTime, AreOnTime, BeginsPlanned, IsFound, IsGivenPlan, IsOfOnePlan, TakesGiven, offered, stale_at}
use Rattle.hs_base.specs.Walks.{AreDifferent}
use Rattle.simulation_laws.specs.Simulated.{Attempts, EndsAs, IsUnfound, all, nodes_ended, none_found}
use Rattle.simulation_laws.proofs.EndLemmas.{fires_last}
use Rattle.simulation_laws.proofs.OnePlanLemmas.{hands_none, one_found, one_in_time, one_planned}
use Rattle.sim_run.specs.Runs.{IsFlight, IsRunOf, IsWhy, attempts_of, given_of, told}
use Rattle.sim_run.specs.declared.run.Planned.{Planned}
use Rattle.sim_run.specs.declared.run.Planned.TheVariants.{Budget, NoPlan}
use Rattle.sim_run.proofs.FlightLemmas.{adds_nothing, told_is}
use Rattle.sim_run.proofs.MoveLemmas.{longer}

-- entries that offer nothing hand nothing over
none_handed : (later : List Entry) → AllByRecursion (λ (x : Entry). offered x.deed ≡ None) later → plan_of later ≡ []
none_handed [] none = refl
none_handed (x ∷ later) none = ap (λ (o : Option Extension). cons_option o (plan_of later)) (hands_none x.deed none.0) ∙ none_handed later none.1

one_plan : (h : List Entry) (e : Extension) → IsOfOnePlan h e → plan_of h ≡ e ∷ []
one_plan h e one = ap plan_of one.is ∙ ap (λ (o : Option Extension). cons_option o (plan_of one.later)) one.hands ∙ ap (λ l. e ∷ l) (none_handed one.later one.no_more)

-- where the plan came from
abbrev pub ComesFrom : Mission → ℕ → Option Extension → Extension → Type 0
ComesFrom m nodes given e = IsGivenPlan given [] e ⊎ IsFound takes_all m nodes [] e

-- a phase in which a run is over
over_as : (p : Phase) → is_over p ≡ true → (p ≡ Failed) ⊎ (p ≡ Ended)
over_as Failed over = inl refl
over_as Ended over = inr refl
over_as Waiting over = absurd (cc)
over_as Running over = absurd (cc)

-- a history whose phase is failed has failed
failed_as : (h : List Entry) → phase_of h ≡ Failed → has_failed h ≡ true
failed_as h is = by_case (has_failed h) refl
  where
    by_rest : (a b : Bool) → cond a Waiting (cond b Ended Running) ≡ Failed → ⊥
    by_rest true b e = cc
    by_rest false true e = cc
    by_rest false false e = cc

    by_case : (b : Bool) → has_failed h ≡ b → has_failed h ≡ true
    by_case true at = at
    by_case false at = absurd (by_rest _ _ (rw at at is))

-- the flight of a plan is a run of its mission
pub flight_run : (m : Mission) (nodes : ℕ) (given : Option Extension) (heard : List Heard) (p : Plan) (r : Recorded) → p.mission ≡ m → length m.horizons ≡ 1 → (f : IsFlight p heard r) → ComesFrom m nodes given f.extension → TakesGiven given r.history → IsRunOf m nodes given heard r.history all
flight_run m nodes given heard p r named one_horizon f comes first = subst (λ (n : Mission). IsRunOf n nodes given heard r.history all) mission (record {
  polls = f.polls;
  added = f.added;
  simulated = record {
    run = f.is_run.run;
    given_first = first;
    found = one_found takes_all r.mission nodes given r.history f.extension f.one (subst (λ (n : Mission). ComesFrom n nodes given f.extension) (sym mission) comes);
    attended = f.attended;
    planned = planned.0;
    in_time = in_time.0;
    stale_once = subst AreDifferent (sym planned.1) tt;
    ends = ends;
  };
  unseeded = record { eager = f.is_run.eager; on_time = in_time.1; fresh = planned.1; ends = inl refl };
  broken = f.broken;
})
  where
    mission : r.mission ≡ m
    mission = f.mission ∙ named

    planned : BeginsPlanned r.history × (stale_at r.history ≡ [])
    planned = one_planned r.history f.extension f.one

    in_time : AreInTime r.mission r.history × AreOnTime r.mission r.history
    in_time = one_in_time r.mission r.history f.extension f.one

    ends : EndsAs takes_all r.mission nodes r.history all
    ends = elim (over_as (phase_of r.history) f.over) [
      | inl failed ↦ inl (failed_as r.history failed)
      | inr ended ↦ inr (record {
        fires = fires_last r.mission r.history f.is_run.run ended;
        all = ap length (one_plan r.history f.extension f.one) ∙ sym one_horizon ∙ ap (λ (n : Mission). length n.horizons) (sym mission);
      })
    ]

-- a run has few points
pub few_at : (heard : List Heard) (p : Plan) (r : Recorded) → IsFlight p heard r → count_at r.history + 1 < 2 ^ 32
few_at heard p r f =
    let is = one_plan r.history f.extension f.one in
    let checked = run_checked r.mission r.history f.is_run.run (λ none. let e : f.extension ∷ [] ≡ [] = sym is ∙ none in cc) in
    let few = few_points r.mission checked.mission (plan_of r.history) checked.rules in
    omega (arith, few)

-- nothing is told by devices that aren't called
nothing_added : {D : Type 0} (polls : D → Option Polls) (faults : D → ℕ) (devices : List D) → AreAdded (told polls faults devices devices) (λ d. [])
nothing_added {D} polls faults devices d x at =
    let t = told_is polls faults devices devices d x at in
    let same : t.was ≡ t.is = let e : Some t.was ≡ Some t.is = sym t.before_at ∙ t.now_at in cc in
    subst (λ (y : Heard). Adds y.before y.after []) (sym t.heard) (subst (λ (z : D). Adds (polls t.was) (polls z) []) same (adds_nothing (polls t.was)))

-- a history without entries
nothing_done : (m : Mission) (nodes : ℕ) (heard : List Heard) (attempts : Attempts) → IsMission m → AreAdded heard (λ d. []) → EndsAs takes_all m nodes [] attempts → IsRunOf m nodes None heard [] attempts
nothing_done m nodes heard attempts good added ends = record {
  polls = λ d. [];
  added = added;
  simulated = record {
    run = record { mission = good; entries = tt };
    given_first = tt;
    found = tt;
    attended = λ d below. record { reported = refl; asked = inl refl };
    planned = tt;
    in_time = tt;
    stale_once = tt;
    ends = ends;
  };
  unseeded = record { eager = tt; on_time = tt; fresh = refl; ends = inr (inl refl) };
  broken = λ v ends. absurd (longer ends.before _ ends.is);
}

-- a run that had no plan
pub no_flight : {D : Type 0} (polls : D → Option Polls) (faults : D → ℕ) (devices : List D) (m : Mission) (nodes : ℕ) (planned : Planned) (reason : Unplanned) → IsMission m → IsUnplanned m nodes reason → IsWhy reason planned → IsRunOf m nodes None (told polls faults devices devices) [] (attempts_of planned)
no_flight polls faults devices m nodes planned reason good = by_reason reason
  where
    unfound : (found : Found Extension) → FindsPlan m outset nodes found → IsUnfound takes_all m nodes [] found
    unfound found none = record { goes_on = refl; more = good.some_horizons; finds = all_taken m outset takes_all (λ es. tt) nodes found none }

    by_reason : (w : Unplanned) → IsUnplanned m nodes w → IsWhy w planned → IsRunOf m nodes None (told polls faults devices devices) [] (attempts_of planned)
    by_reason why.NoPlan none is = subst (λ (a : Attempts). IsRunOf m nodes None (told polls faults devices devices) [] a) (sym (ap attempts_of is)) (nothing_done m nodes (told polls faults devices devices) none_found good (nothing_added polls faults devices) (unfound no_plan none))
    by_reason (why.Budget path) none is = subst (λ (a : Attempts). IsRunOf m nodes None (told polls faults devices devices) [] a) (sym (ap attempts_of is)) (nothing_done m nodes (told polls faults devices devices) (nodes_ended path) good (nothing_added polls faults devices) (unfound (budget path) none))
    by_reason why.Memory none is = absurd is

-- one extension is the same in a plan
same_extension : (es : List Extension) (e f : Extension) → es ≡ e ∷ [] → es ≡ f ∷ [] → e ≡ f
same_extension es e f one other = let same : e ∷ [] ≡ f ∷ [] = sym one ∙ other in cc

-- the flight of a plan that was found
pub flight_found : (m : Mission) (nodes : ℕ) (heard : List Heard) (p : Plan) (r : Recorded) → p.mission ≡ m → length m.horizons ≡ 1 → IsPlanned m nodes p.plan.extensions → IsFlight p heard r → IsRunOf m nodes None heard r.history all
flight_found m nodes heard p r named one_horizon planned f = flight_run m nodes None heard p r named one_horizon f (inr (subst (IsFound takes_all m nodes []) (sym (same_extension p.plan.extensions f.extension planned.extension f.plan planned.is)) found)) tt
  where
    e : Extension
    e = planned.extension

    since : planned.extension.since ≡ pos 0
    since = ap (λ (x : Extension). x.since) planned.found.5.is

    fixed : planned.extension.fixed ≡ []
    fixed = ap (λ (x : Extension). x.fixed) planned.found.5.is

    found : IsFound takes_all m nodes [] planned.extension
    found = record {
      snapshot = record { seen = []; later = []; is = refl; plan = refl; since = since; fixed = fixed };
      found = subst (λ (t : ℤ). FindsWhere takes_all m (record { base = []; since = t; fixed = planned.extension.fixed }) nodes (plan planned.extension)) (sym since)
          (subst (λ (l : List Time). FindsWhere takes_all m (record { base = []; since = pos 0; fixed = l }) nodes (plan planned.extension)) (sym fixed)
          (all_taken m outset takes_all (λ es. tt) nodes (plan planned.extension) planned.found));
    }

-- and of one that was given
pub flight_given : (m : Mission) (nodes : ℕ) (heard : List Heard) (p : Plan) (r : Recorded) → p.mission ≡ m → length m.horizons ≡ 1 → IsFlight p heard r → IsRunOf m nodes (given_of (Some p)) heard r.history all
flight_given m nodes heard p r named one_horizon f = flight_run m nodes (given_of (Some p)) heard p r named one_horizon f (inl (refl, given)) (subst (λ (o : Option Extension). TakesGiven o r.history) (sym given) (record { first = f.one.first; later = f.one.later; is = f.one.is; hands = f.one.hands }))
  where
    given : given_of (Some p) ≡ Some f.extension
    given = ap (λ (l : List Extension). given_of (Some (record { mission = p.mission; plan = record { extensions = l } }))) f.plan
