use Rattle.simulation_laws.proofs.ReportLemmas.{open_reported}
use Rattle.simulation_laws.proofs.steps.a_finished_script_is_reported_or_comes_early.Goals as goal

pub returns : goal.returns
returns c = open_reported
