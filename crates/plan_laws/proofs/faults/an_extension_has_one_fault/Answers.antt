use Rattle.plan_laws.proofs.OneFaultLemmas.{one_fault}
use Rattle.plan_laws.proofs.faults.an_extension_has_one_fault.Goals as goal

pub returns : goal.returns
returns c = one_fault
