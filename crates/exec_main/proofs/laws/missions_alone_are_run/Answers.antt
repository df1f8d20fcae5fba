use Rattle.exec_main.proofs.GoodLemmas.{run_alone_told}
use Rattle.exec_main.proofs.laws.missions_alone_are_run.Goals as goal

pub returns : goal.returns
returns c = run_alone_told
