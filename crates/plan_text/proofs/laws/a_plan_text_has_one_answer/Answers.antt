use Rattle.plan_text.proofs.PlanAnswerLemmas.{spelled_or_refusal, refusal_one}
use Rattle.plan_text.proofs.laws.a_plan_text_has_one_answer.Goals as goal

pub returns : goal.returns
returns c = record { spelled = spelled_or_refusal; refused = refusal_one }
