use Rattle.std.proofs.Common.{◌≡◌, None, replicate}
use Rattle.timeline_db.proofs.laying.open_goals.Given as goal

abbrev pub invariant-loop : goal.invariant-loop
invariant-loop l = l.open.items ≡ replicate l.counter None
