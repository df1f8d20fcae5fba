use Rattle.simulation_laws.specs.Ended.{takes_all}
use Rattle.simulation_laws.proofs.OnePlanLemmas.{one_found, one_grows, one_in_time, one_planned}
use Rattle.simulation_laws.proofs.runs.a_run_of_one_plan_is_planned_in_time.Goals as goal

pub returns : goal.returns
returns c = record { grows = one_grows; planned = one_planned; in_time = one_in_time; found = one_found takes_all }
