use Rattle.commands.proofs.AnswerLemmas.{faulted, unrun}
use Rattle.commands.proofs.laws.a_faulty_plan_is_told_its_fault.Goals as goal

pub returns : goal.returns
returns c = record { checks = faulted; sims = unrun }
