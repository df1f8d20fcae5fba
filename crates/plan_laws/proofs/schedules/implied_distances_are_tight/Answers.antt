use Rattle.plan_laws.proofs.ScheduleLemmas.{tight_from_distances}
use Rattle.plan_laws.proofs.schedules.implied_distances_are_tight.Goals as goal

pub returns : goal.returns
returns c = tight_from_distances
