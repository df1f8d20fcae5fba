use Rattle.commands.proofs.EndLemmas.{told_done}
use Rattle.commands.proofs.laws.a_run_with_its_plans_is_done.Goals as goal

pub returns : goal.returns
returns c = told_done
