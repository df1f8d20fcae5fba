use Rattle.simulation_laws.specs.Ended.{takes_all}
use Rattle.simulation_laws.proofs.CompleteLemmas.{is_completed}
use Rattle.simulation_laws.proofs.runs.a_run_with_its_plans_is_completed.Goals as goal

pub returns : goal.returns
returns c = λ nodes seed given heard m h end run sound kept wanted. is_completed takes_all m nodes h wanted seed given heard end run sound kept
