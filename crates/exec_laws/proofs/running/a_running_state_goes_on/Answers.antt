use Rattle.exec_laws.proofs.StepLemmas.{running}
use Rattle.exec_laws.proofs.RunningLemmas.{goes_on, due_done}
use Rattle.exec_laws.proofs.running.a_running_state_goes_on.Goals as goal

pub returns : goal.returns
returns c = record {
  goes_on = λ m h run is. goes_on m h run is (running h is).some;
  due = λ m h x run lawful. due_done m h run x lawful;
}
