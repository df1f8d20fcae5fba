use Rattle.simulation_laws.proofs.StandLemmas.{stands_fired}
use Rattle.simulation_laws.proofs.steps.a_device_stands_after_a_fire.Goals as goal

pub returns : goal.returns
returns c = λ m h by x d polls st run lawful s. stands_fired m h by x run lawful d polls st s
