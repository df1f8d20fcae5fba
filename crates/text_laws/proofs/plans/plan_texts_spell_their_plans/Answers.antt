use Rattle.text_laws.proofs.PlanSpellingLemmas.{plan_spelled}
use Rattle.text_laws.proofs.plans.plan_texts_spell_their_plans.Goals as goal

pub returns : goal.returns
returns c = plan_spelled
