-- What is found, within the budget and with the steps that were made.
use Rattle.std.proofs.Common.{◌≡◌, ℕ, ◌+◌, ◌≤◌, List, refl, subst, arith}
use Rattle.hs_base.specs.declared.mission.Mission.{Mission}
use Rattle.hs_base.specs.declared.plan.Extension.{Extension}
use Rattle.plan_check.specs.Planned.{Planned}
use Rattle.plan_search.proofs.SearchLemmas.{finds_plan}
use Rattle.plan_search.specs.Answered.{FindsInSteps, IsNoneFound, IsPlanAt, IsPlanFound}
use Rattle.plan_search.specs.Searched.{Reaches, path_to}
use Rattle.plan_search.specs.Visits.{IsWhole}
use Rattle.plan_search.specs.declared.frames.Frame.{Frame}
use Rattle.plan_search.specs.declared.unplanned.Unplanned.{Unplanned}
use Rattle.plan_search.specs.declared.unplanned.Unplanned.TheVariants.{Budget, Memory, NoPlan}
use Rattle.search_tree.specs.Begun.{Begun}
use Rattle.search_tree.specs.Extends.{extension}
use Rattle.search_tree.specs.Search.{FindsWhere, FindsWhereAt}
use Rattle.search_tree.specs.Tree.{Found, budget, no_plan, plan}
use Rattle.timeline_db.specs.Plannings.{IsOpen, Planning, partial_of}

module _ (takes : Mission → List Extension → Type 0) where
  -- the plan of a node that is reached
  pub whole_plan : (d : Planning) (fs : List Frame) (c : Planned) (count : ℕ) → Reaches takes d.mission d.begun d.parts fs (record { path = path_to fs; plan = partial_of d }) count → IsOpen d → IsWhole d c → takes d.mission c.plan.extensions → IsPlanAt takes d.mission d.begun (count + 1) c
  whole_plan d fs c count reached ahead whole taken = record {
    extension = extension d.mission d.begun (partial_of d);
    mission = whole.mission;
    is = whole.is;
    leads = finds_plan d.mission d.begun takes d.parts fs (record { path = path_to fs; plan = partial_of d }) (extension d.mission d.begun (partial_of d)) count reached ahead whole.flawless refl (subst (λ (l : List Extension). takes d.mission l) whole.is taken);
  }

  module _ (m : Mission) (b : Begun) where
    -- it is found within the budget
    pub plan_found : (nodes limit before after : ℕ) (c : Planned) → nodes ≤ limit → after ≡ before + nodes → IsPlanAt takes m b nodes c → IsPlanFound takes m b limit before after c
    plan_found nodes limit before after c within steps p = record {
      extension = p.extension;
      mission = p.mission;
      is = p.is;
      found = record { finds = let h = p.leads.0 in (h.0, h.1, h.2, h.3, h.4, h.5, omega (arith, h.6, within)); nodes = nodes; leads = p.leads; steps = steps };
    }

    pub none_found : (nodes limit before after : ℕ) → nodes ≤ limit → after ≡ before + nodes → FindsWhereAt takes m b nodes no_plan → FindsInSteps takes m b limit before after no_plan
    none_found nodes limit before after within steps h = record { finds = let f = h.0 in (f.0, f.1, f.2, omega (arith, f.3, within)); nodes = nodes; leads = h; steps = steps }

    pub budget_found : (nodes limit before after : ℕ) (path : List ℕ) → nodes ≡ limit → after ≡ before + nodes → FindsWhereAt takes m b nodes (budget path) → FindsInSteps takes m b limit before after (budget path)
    budget_found nodes limit before after path same steps h = record { finds = subst (λ n. FindsWhere takes m b n (budget path)) same h.0; nodes = nodes; leads = h; steps = steps }

    -- one step earlier
    fewer : (limit before after : ℕ) (found : Found Extension) → FindsInSteps takes m b limit (before + 1) (after + 1) found → FindsInSteps takes m b limit before after found
    fewer limit before after found h = record { finds = h.finds; nodes = h.nodes; leads = h.leads; steps = let e = h.steps in omega arith }

    pub plan_earlier : (limit before after : ℕ) (c : Planned) → IsPlanFound takes m b limit (before + 1) (after + 1) c → IsPlanFound takes m b limit before after c
    plan_earlier limit before after c p = record { extension = p.extension; mission = p.mission; is = p.is; found = fewer limit before after (plan p.extension) p.found }

    pub none_earlier : (limit before after : ℕ) (why : Unplanned) → IsNoneFound takes m b limit (before + 1) (after + 1) why → IsNoneFound takes m b limit before after why
    none_earlier limit before after NoPlan h = fewer limit before after no_plan h
    none_earlier limit before after (Budget path) h = fewer limit before after (budget path) h
    none_earlier limit before after Memory h = tt
