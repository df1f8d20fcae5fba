use Rattle.journal_read.proofs.LogReadLemmas.{log_reads}
use Rattle.journal_read.proofs.laws.logs_are_read.Goals as goal

pub returns : goal.returns
returns c = log_reads
