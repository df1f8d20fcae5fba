use Rattle.drill_mission.proofs.WordLemmas.{word_is, draws_more}
use Rattle.drill_mission.proofs.laws.words_follow_one_another.Goals as goal

pub returns-clause-word : goal.returns-clause-word
returns-clause-word c = word_is

pub returns-clause-after : goal.returns-clause-after
returns-clause-after c = draws_more
