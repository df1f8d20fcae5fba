use Rattle.exec_laws.proofs.EndingLemmas.{ended_leaves}
use Rattle.exec_laws.proofs.running.an_ended_run_leaves_last_ends.Goals as goal

pub returns : goal.returns
returns c = λ m h x run is below free. ended_leaves m h run is x below free
