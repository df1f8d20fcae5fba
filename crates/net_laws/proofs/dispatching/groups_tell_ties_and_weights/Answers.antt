use Rattle.net_laws.proofs.StepLemmas.{ties, weight_inside, weight_along}
use Rattle.net_laws.proofs.dispatching.groups_tell_ties_and_weights.Goals as goal

pub returns : goal.returns
returns c = record { ties = ties; inside = weight_inside; along = weight_along }
