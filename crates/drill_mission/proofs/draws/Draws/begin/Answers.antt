use Rattle.drill_mission.specs.Words.{draws}
use Rattle.drill_mission.proofs.draws.Draws.begin.Goals as goal

pub returns : goal.returns
unfolding draws
returns c = c.seed_from_u64.ensures
