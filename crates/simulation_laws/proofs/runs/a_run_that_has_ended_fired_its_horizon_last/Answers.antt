use Rattle.simulation_laws.proofs.EndLemmas.{fires_last}
use Rattle.simulation_laws.proofs.runs.a_run_that_has_ended_fired_its_horizon_last.Goals as goal

pub returns : goal.returns
returns c = fires_last
