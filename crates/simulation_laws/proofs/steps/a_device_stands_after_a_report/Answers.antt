use Rattle.simulation_laws.proofs.StandLemmas.{early_beside, stands_beside, stands_early, stands_reported}
use Rattle.simulation_laws.proofs.steps.a_device_stands_after_a_report.Goals as goal

pub returns : goal.returns
returns c = record {
  own = λ m h by x d polls s run lawful same f o. stands_reported m h by x run lawful d polls s same f o;
  other = λ m h by x w s d polls k st run lawful same o apart a. stands_beside m h by x run lawful w s same o d apart polls k st a;
  early = λ m h by b d polls s from o f. stands_early m h by b d s from o polls f;
  beside = λ m h by b w s d polls k st from o apart a. early_beside m h by b w s from o d apart polls k st a;
}
