use Rattle.plan_laws.proofs.FitLemmas.{bounds_fit, after_origin, before_last}
use Rattle.plan_laws.proofs.distances.bounds_of_a_plan_are_fit_for_distances.Goals as goal

pub returns : goal.returns
returns c = record { fit = bounds_fit; after_origin = after_origin; before_last = before_last }
