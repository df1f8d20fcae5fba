use Rattle.plan_laws.proofs.FaultLemmas.{not_checked}
use Rattle.plan_laws.proofs.faults.a_fault_excludes_a_checked_plan.Goals as goal

pub returns : goal.returns
returns c = not_checked
