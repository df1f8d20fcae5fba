use Rattle.plan_laws.proofs.LegalLemmas.{legal}
use Rattle.plan_check.proofs.laws.schedules_of_a_checked_plan_make_legal_timelines.Goals as goal

pub returns : goal.returns
returns c = λ s some h. legal c.args.plan.now.mission c.args.plan.now.plan.extensions s c.plan.ensures.checked some h
