use Rattle.stn_trail.proofs.RaisingLemmas.{Spreads}
use Rattle.stn_trail.proofs.spread.spread.Given as goal

abbrev pub invariant-points : goal.invariant-points
invariant-points l = Spreads l.rows l.fn.times l.times l.queue.items
