use Rattle.commands.proofs.AnswerLemmas.{run_by_plan}
use Rattle.commands.proofs.laws.a_mission_is_run_by_its_plan.Goals as goal

pub returns : goal.returns
returns c = run_by_plan
