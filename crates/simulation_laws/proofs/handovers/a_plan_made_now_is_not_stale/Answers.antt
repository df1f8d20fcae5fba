use Rattle.exec_laws.proofs.RunningLemmas.{executed_in}
use Rattle.simulation_laws.proofs.FreshLemmas.{planned_now_fits}
use Rattle.simulation_laws.proofs.handovers.a_plan_made_now_is_not_stale.Goals as goal

pub returns : goal.returns
returns c = λ m h e run since fixed checked. planned_now_fits m h e run (executed_in m h run).within since fixed checked
