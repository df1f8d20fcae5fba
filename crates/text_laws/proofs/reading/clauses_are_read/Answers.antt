use Rattle.text_laws.proofs.MissionLemmas.{range_reads, kind_reads, choice_reads}
use Rattle.text_laws.proofs.reading.clauses_are_read.Goals as goal

pub returns : goal.returns
returns c = record { ranges = range_reads; kinds = kind_reads; choices = choice_reads }
