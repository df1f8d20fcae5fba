use Rattle.exec_main.proofs.GoodLemmas.{accepted_printed}
use Rattle.exec_main.proofs.laws.accepted_missions_are_printed.Goals as goal

pub returns : goal.returns
returns c = accepted_printed
