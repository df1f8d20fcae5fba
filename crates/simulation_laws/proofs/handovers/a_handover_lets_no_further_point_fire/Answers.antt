use Rattle.simulation_laws.proofs.HandedLemmas.{fires_before}
use Rattle.simulation_laws.proofs.handovers.a_handover_lets_no_further_point_fire.Goals as goal

pub returns : goal.returns
returns c = fires_before
