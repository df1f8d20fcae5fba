use Rattle.exec_main.proofs.GoodLemmas.{faulty_told, faulty_unrun}
use Rattle.exec_main.proofs.laws.faulty_plans_are_told_their_faults.Goals as goal

pub returns : goal.returns
returns c = record { checks = faulty_told; sims = faulty_unrun }
