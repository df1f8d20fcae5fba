use Rattle.commands.proofs.AnswerLemmas.{printed}
use Rattle.commands.proofs.laws.an_accepted_mission_is_printed.Goals as goal

pub returns : goal.returns
returns c = printed
