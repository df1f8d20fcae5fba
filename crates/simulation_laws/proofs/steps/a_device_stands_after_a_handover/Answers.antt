use Rattle.simulation_laws.proofs.StandLemmas.{stands_first, stands_handed}
use Rattle.simulation_laws.proofs.steps.a_device_stands_after_a_handover.Goals as goal

pub returns : goal.returns
returns c = record {
  first = λ m by e n d run. stands_first m by e n run d;
  later = λ m h by e n d polls k st run is run2 s. stands_handed m h by e n run is run2 d polls k st s;
}
