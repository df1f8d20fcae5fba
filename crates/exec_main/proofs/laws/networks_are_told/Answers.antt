use Rattle.exec_main.proofs.GoodLemmas.{net_told}
use Rattle.exec_main.proofs.laws.networks_are_told.Goals as goal

pub returns : goal.returns
returns c = net_told
