use Rattle.exec_main.proofs.GoodLemmas.{run_by_plan_told}
use Rattle.exec_main.proofs.laws.missions_are_run_by_their_plans.Goals as goal

pub returns : goal.returns
returns c = run_by_plan_told
