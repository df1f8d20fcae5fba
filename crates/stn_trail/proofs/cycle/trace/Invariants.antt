use Rattle.stn_trail.specs.Rounds.{cause_at}
use Rattle.stn_trail.proofs.RoundLemmas.{IsWay}
use Rattle.stn_trail.proofs.cycle.trace.Given as goal

abbrev pub invariant-back : goal.invariant-back
invariant-back l = IsWay l.rows (cause_at l.rows l.causes) l.first l.way.items l.at l.total
