use Rattle.simulation_laws.proofs.GoLemmas.{eager_other, eager_settled}
use Rattle.simulation_laws.proofs.steps.an_eager_history_stays_so.Goals as goal

pub returns : goal.returns
returns c = record { other = eager_other; settled = eager_settled }
