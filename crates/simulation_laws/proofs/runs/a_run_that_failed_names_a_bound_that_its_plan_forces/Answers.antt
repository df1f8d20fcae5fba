use Rattle.simulation_laws.proofs.FailLemmas.{failed_by_tight}
use Rattle.simulation_laws.proofs.runs.a_run_that_failed_names_a_bound_that_its_plan_forces.Goals as goal

pub returns : goal.returns
returns c = failed_by_tight
