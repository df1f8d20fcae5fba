use Rattle.commands.proofs.SearchLemmas.{run_alone}
use Rattle.commands.proofs.laws.a_mission_alone_is_run.Goals as goal

pub returns : goal.returns
returns c = run_alone
