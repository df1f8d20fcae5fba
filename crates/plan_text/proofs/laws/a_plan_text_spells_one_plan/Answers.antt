use Rattle.plan_text.proofs.PlanAnswerLemmas.{plan_one}
use Rattle.plan_text.proofs.laws.a_plan_text_spells_one_plan.Goals as goal

pub returns : goal.returns
returns c = plan_one
