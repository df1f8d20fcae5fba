use Rattle.drill_mission.proofs.DrillLemmas.{drill_is_mission}
use Rattle.drill_mission.proofs.laws.a_drill_is_a_mission.Goals as goal

pub returns : goal.returns
returns c = drill_is_mission
