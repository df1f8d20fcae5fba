use Rattle.stn_distance.specs.Rows.{items_of}
use Rattle.stn_distance.proofs.DistLemmas.{IsTableOf-from_exact}
use Rattle.stn_distance.proofs.dist.Dist.points.Goals as goal

pub returns-clause-table : goal.returns-clause-table
returns-clause-table c =
    let d = c.self.inside in
    rw (← c.self.view_is) (IsTableOf-from_exact _ d.bounds.items d.places.items d.offsets.items (items_of d.rows.items) c.self.invariant)
