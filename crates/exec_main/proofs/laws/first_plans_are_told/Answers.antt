use Rattle.exec_main.proofs.GoodLemmas.{plan_told}
use Rattle.exec_main.proofs.laws.first_plans_are_told.Goals as goal

pub returns : goal.returns
returns c = plan_told
