use Rattle.plan_laws.proofs.ScheduleLemmas.{first_meets}
use Rattle.plan_laws.proofs.schedules.lists_and_functions_are_one_claim.Goals as goal

pub returns : goal.returns
returns c = record { list = λ c k t. first_meets t c k; function = λ c k s h. h.times }
