use Rattle.base_laws.proofs.MissionLemmas.{value_is, need_is, choice_is}
use Rattle.base_laws.proofs.missions.parts_of_a_mission_keep_its_rules.Goals as goal

pub returns : goal.returns
returns c = record { values = value_is; needs = need_is; choices = choice_is }
