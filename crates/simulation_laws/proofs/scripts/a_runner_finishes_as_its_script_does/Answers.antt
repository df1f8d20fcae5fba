use Rattle.simulation_laws.proofs.FinishLemmas.{finishes_alike, finishes_last}
use Rattle.simulation_laws.proofs.scripts.a_runner_finishes_as_its_script_does.Goals as goal

pub returns : goal.returns
returns c = record {
  alike = finishes_alike;
  last = λ steps t polls at answer ends late some none. finishes_last steps t polls ends at answer late some none;
}
