use Rattle.commands.proofs.SoundLemmas.{one_flaw}
use Rattle.commands.proofs.laws.a_plan_has_one_first_flaw.Goals as goal

pub returns : goal.returns
returns c = one_flaw
