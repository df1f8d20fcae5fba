use Rattle.plan_laws.proofs.PlanLemmas.{restricts}
use Rattle.plan_laws.proofs.schedules.schedules_restrict.Goals as goal

pub returns : goal.returns
returns c = restricts
