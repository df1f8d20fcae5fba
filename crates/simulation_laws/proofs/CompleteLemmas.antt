-- A run in which nothing goes wrong is completed.
use Rattle.std.proofs.Common.{◌≡◌, ℕ, List, [], Option, refl, sym, subst, append-nil}
use Rattle.hs_base.specs.declared.mission.Mission.{Mission}
use Rattle.hs_base.specs.declared.net.Bound.{Bound}
use Rattle.hs_base.specs.declared.plan.Extension.{Extension}
use Rattle.hs_machine.specs.declared.history.Entry.{Entry}
use Rattle.hs_machine.specs.Views.{snapshot_of}
use Rattle.search_tree.specs.Begun.{begun_of}
use Rattle.search_tree.specs.Tree.{Found, plan, no_plan, budget}
use Rattle.search_laws.proofs.OneLemmas.{one_taken}
use Rattle.simulation_laws.specs.Ended as ended
use Rattle.simulation_laws.specs.Ended.{End, FindsEachPlan, Heard, IsFailedBy, IsSimRun, RoseAt}
use Rattle.simulation_laws.specs.Simulated.{EndsAs, IsUnfound}

abbrev is_plan : Found Extension → Type 0
is_plan (plan e) = Unit
is_plan no_plan = ⊥
is_plan (budget path) = ⊥

module _ (takes : Mission → List Extension → Type 0) (m : Mission) (nodes : ℕ) (h : List Entry) (wanted : FindsEachPlan takes m nodes h) where
  -- the search finds a plan where a run stops for want of one
  found : (f : Found Extension) → IsUnfound takes m nodes h f → is_plan f
  found f u =
      let e = wanted h [] (sym (append-nil h)) refl u.more in
      subst is_plan (one_taken takes m (begun_of (snapshot_of m h)) nodes (plan e.0) f e.1 u.finds) tt

  pub is_completed : (seed : Option ℕ) (given : Option Extension) (heard : List Heard) (end : End) → IsSimRun takes nodes seed given heard m h end → ((d : ℕ) → RoseAt heard d → ⊥) → ((b : Bound) → IsFailedBy h b → ⊥) → end ≡ ended.completed
  is_completed seed given heard ended.completed run sound kept = refl
  is_completed seed given heard ended.failed run sound kept = absurd (kept run.ends.1.0 run.ends.1.1)
  is_completed seed given heard ended.broken run sound kept = absurd (sound run.ends.1.0.0 run.ends.1.1.rose)
  is_completed seed given heard ended.no_plan run sound kept = absurd (found no_plan (subst (EndsAs takes m nodes h) run.ends run.simulated.ends))
  is_completed seed given heard (ended.budget path) run sound kept = absurd (found (budget path) (subst (EndsAs takes m nodes h) run.ends run.simulated.ends))
