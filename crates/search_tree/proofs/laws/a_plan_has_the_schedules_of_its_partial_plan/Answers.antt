use Rattle.search_tree.proofs.PlanOfNode.{plan_meets}
use Rattle.search_tree.proofs.laws.a_plan_has_the_schedules_of_its_partial_plan.Goals as goal

pub returns : goal.returns
returns c = λ m b p t sound flawless meets. plan_meets m b p t sound flawless meets
