-- What is found of all plans, and where nothing has happened yet.
use Rattle.std.proofs.Common.{ℕ, List, [], ◌∷◌, subst, sym}
use Rattle.std.specs.Prelude.{⊤}
use Rattle.hs_base.specs.declared.mission.Mission.{Mission}
use Rattle.hs_base.specs.declared.plan.Extension.{Extension}
use Rattle.hs_base.specs.Checked.{Checked}
use Rattle.hs_base.specs.Missions.{IsMission}
use Rattle.plan_check.specs.Planned.{Planned}
use Rattle.search_tree.specs.Begun.{Begun}
use Rattle.search_tree.specs.Search.{FindsPlan}
use Rattle.search_tree.specs.Tree.{budget, no_plan, plan}
use Rattle.search_laws.proofs.TreeLemmas.{found_checked, none_left_out}
use Rattle.plan_search.specs.Answered.{IsNoneFound, IsPlanFound}
use Rattle.plan_search.specs.First.{IsPlanned, IsPlannedFrom, IsUnplannedFrom, outset}
use Rattle.plan_search.specs.declared.unplanned.Unplanned.{Unplanned}
use Rattle.plan_search.specs.declared.unplanned.Unplanned.TheVariants.{Budget, Memory, NoPlan}
use Rattle.timeline_db.proofs.OpeningLemmas.{begins_anywhere}

abbrev every : Mission → List Extension → Type 0
every m es = ⊤

-- where every plan is taken, what is found is found of all plans
pub planned_from : (m : Mission) (b : Begun) (limit before after : ℕ) (c : Planned) → IsPlanFound (λ (m : Mission) (es : List Extension). ⊤) m b limit before after c → IsPlannedFrom m b limit c.plan.extensions
planned_from m b limit before after c p = record { extension = p.extension; is = p.is; found = none_left_out m b every (λ es. tt) limit (plan p.extension) p.found.finds }

pub unplanned_from : (m : Mission) (b : Begun) (limit before after : ℕ) (why : Unplanned) → IsNoneFound (λ (m : Mission) (es : List Extension). ⊤) m b limit before after why → IsUnplannedFrom m b limit why
unplanned_from m b limit before after NoPlan h = none_left_out m b every (λ es. tt) limit no_plan h.finds
unplanned_from m b limit before after (Budget path) h = none_left_out m b every (λ es. tt) limit (budget path) h.finds
unplanned_from m b limit before after Memory h = tt

-- the plan that is found where nothing has happened keeps the rules
pub planned_first : (m : Mission) (nodes : ℕ) (es : List Extension) → IsMission m → IsPlannedFrom m outset nodes es → IsPlanned m nodes es
planned_first m nodes es h p = record {
  extension = p.extension;
  is = p.is;
  found = p.found;
  checked = subst (λ (l : List Extension). Checked m l) (sym p.is) (found_checked m outset (begins_anywhere m h) nodes p.extension p.found);
}
