use Rattle.std.proofs.Common.{◌==◌, count_by}
use Rattle.stn_distance.proofs.TraceLemmas.{OnPath}
use Rattle.stn_distance.proofs.trace.trace.Given as goal

abbrev pub invariant-back : goal.invariant-back
invariant-back l = OnPath l.count l.bounds l.causes l.start l.places.items l.path.items l.at

abbrev pub decreases-back : goal.decreases-back
decreases-back l = count_by (λ x. x == l.count) l.places.items
