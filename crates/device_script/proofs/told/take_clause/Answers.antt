use Rattle.std.proofs.Common.{arith}
use Rattle.device_script.proofs.SayingLemmas.{clauses_more, clauses_last}
use Rattle.device_script.proofs.told.take_clause.Goals as goal

pub returns-then-clause-saturating_sub-clause-next : goal.returns-then-clause-saturating_sub-clause-next
returns-then-clause-saturating_sub-clause-next c =
    clauses_more c.args.turns.now.clauses c.args.turns.now.next (omega (arith, c.if-clause-saturating_sub.true, c.saturating_sub.ensures, c.len-count.ensures))

pub returns-else-clause-saturating_sub-clause-next : goal.returns-else-clause-saturating_sub-clause-next
returns-else-clause-saturating_sub-clause-next c =
    clauses_last c.args.turns.now.clauses c.args.turns.now.next (omega (arith, c.if-clause-saturating_sub.false, c.saturating_sub.ensures, c.len-count.ensures))
