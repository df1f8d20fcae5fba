use Rattle.simulation_laws.proofs.GoLemmas.{tick_answered}
use Rattle.simulation_laws.proofs.steps.a_settled_tick_is_done_or_late.Goals as goal

pub returns : goal.returns
returns c = tick_answered
