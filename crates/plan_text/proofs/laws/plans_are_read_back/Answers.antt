use Rattle.plan_text.proofs.PlanAnswerLemmas.{spelled_or_refusal, plan_one}
use Rattle.text_laws.proofs.PlanSpellingLemmas.{plan_spelled}
use Rattle.hs_texts.specs.PlanText.{plan_text}
use Rattle.plan_text.proofs.laws.plans_are_read_back.Goals as goal

pub returns : goal.returns
returns c = record {
  spelled = plan_spelled;
  alone = λ m es fs h short s. plan_one m (plan_text m es) 0 fs es s (plan_spelled m es h short);
  accepted = λ m es r h short s. spelled_or_refusal m (plan_text m es) 0 es r (plan_spelled m es h short) s;
}
