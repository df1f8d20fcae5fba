use Rattle.simulation_laws.proofs.StandLemmas.{stands_idle}
use Rattle.simulation_laws.proofs.steps.a_device_stands_after_other_entries.Goals as goal

pub returns : goal.returns
returns c = stands_idle
