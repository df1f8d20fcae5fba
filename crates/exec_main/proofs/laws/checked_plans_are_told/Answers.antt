use Rattle.exec_main.proofs.GoodLemmas.{checked_told}
use Rattle.exec_main.proofs.laws.checked_plans_are_told.Goals as goal

pub returns : goal.returns
returns c = checked_told
