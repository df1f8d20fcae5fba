use Rattle.journal_read.proofs.EntryLemmas.{followed}
use Rattle.journal_read.proofs.naming.index_of.Goals as goal

pub loop-entry-preserved : goal.loop-entry-preserved
loop-entry-preserved c = followed c.args.noted.now c.loop-entry.entry-index c.entry-item.result c.follow.new.index c.loop-entry-test.true c.entry-item.is (c.in_ok-follow.ensures _ c.loop-entry.invariant)
