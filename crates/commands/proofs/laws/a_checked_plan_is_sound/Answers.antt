use Rattle.commands.proofs.AnswerLemmas.{sound}
use Rattle.commands.proofs.laws.a_checked_plan_is_sound.Goals as goal

pub returns : goal.returns
returns c = sound
