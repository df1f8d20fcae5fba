use Rattle.simulation_laws.proofs.HandedLemmas.{begins_at_snapshot}
use Rattle.simulation_laws.proofs.handovers.a_search_may_begin_at_a_snapshot.Goals as goal

pub returns : goal.returns
returns c = begins_at_snapshot
