use Rattle.simulation_laws.proofs.GoLemmas.{report_fewer}
use Rattle.simulation_laws.proofs.steps.a_report_leaves_fewer_steps.Goals as goal

pub returns : goal.returns
returns c = report_fewer
