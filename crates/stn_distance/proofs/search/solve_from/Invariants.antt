use Rattle.stn_distance.specs.Causes.{Explained, IsAboveFloor, slack}
use Rattle.stn_distance.proofs.search.solve_from.Given as goal

abbrev pub invariant-turns : goal.invariant-turns
invariant-turns l = record {
  explained : Explained l.count l.bounds l.times.items l.causes.items;
  floor : IsAboveFloor l.count l.times.items;
}

abbrev pub decreases-turns : goal.decreases-turns
decreases-turns l = slack l.count l.times.items
