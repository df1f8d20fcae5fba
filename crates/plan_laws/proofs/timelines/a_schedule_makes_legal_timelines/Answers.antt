use Rattle.plan_laws.proofs.LegalLemmas.{legal}
use Rattle.plan_laws.proofs.timelines.a_schedule_makes_legal_timelines.Goals as goal

pub returns : goal.returns
returns c = legal
