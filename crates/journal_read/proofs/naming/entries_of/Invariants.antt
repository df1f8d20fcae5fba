use Rattle.journal_read.proofs.EntryLemmas.{EntriesLookedUp}
use Rattle.journal_read.proofs.naming.entries_of.Given as goal

abbrev pub invariant-loop-one : goal.invariant-loop-one
invariant-loop-one l = EntriesLookedUp l.mission l.written l.one-index l.noted l.index
