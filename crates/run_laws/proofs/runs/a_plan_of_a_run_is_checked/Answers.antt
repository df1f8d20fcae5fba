use Rattle.run_laws.proofs.CheckedLemmas.{run_checked}
use Rattle.run_laws.proofs.runs.a_plan_of_a_run_is_checked.Goals as goal

pub returns : goal.returns
returns c = run_checked
