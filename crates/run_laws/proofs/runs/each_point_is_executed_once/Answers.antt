use Rattle.run_laws.proofs.RunLemmas.{each_once}
use Rattle.run_laws.proofs.runs.each_point_is_executed_once.Goals as goal

pub returns : goal.returns
returns c = each_once
