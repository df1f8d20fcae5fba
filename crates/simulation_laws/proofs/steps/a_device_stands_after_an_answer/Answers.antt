use Rattle.simulation_laws.proofs.StandLemmas.{stands_no_more, stands_on, stands_unasked}
use Rattle.simulation_laws.proofs.steps.a_device_stands_after_an_answer.Goals as goal

pub returns : goal.returns
returns c = record { unasked = stands_unasked; on = stands_on; finishes = stands_no_more }
