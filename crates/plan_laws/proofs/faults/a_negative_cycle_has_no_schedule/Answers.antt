use Rattle.plan_laws.proofs.FaultLemmas.{no_cycle}
use Rattle.plan_laws.proofs.faults.a_negative_cycle_has_no_schedule.Goals as goal

pub returns : goal.returns
returns c = no_cycle
