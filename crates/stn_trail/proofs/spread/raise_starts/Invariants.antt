use Rattle.stn_trail.proofs.RaisingLemmas.{Raises}
use Rattle.stn_trail.proofs.spread.raise_starts.Given as goal

abbrev pub invariant-loop-place : goal.invariant-loop-place
invariant-loop-place l = Raises l.rows l.point l.row l.here l.place l.fn.times l.times l.queue.items
