use Rattle.std.proofs.Common.{◌≡◌, map}
use Rattle.hs_base.specs.Schedule.{numbers_from}
use Rattle.hs_base.specs.Points.{is_observed}
use Rattle.horizon_handover.proofs.preparing.observed_of.Given as goal

abbrev pub invariant-loop-x : goal.invariant-loop-x
invariant-loop-x l = l.flags ≡ map (λ x. is_observed l.plan.mission l.plan.plan.extensions x) (numbers_from 0 l.x)
