use Rattle.journal_read.proofs.LogMeaningLemmas.{log_one}
use Rattle.journal_read.proofs.laws.a_log_text_spells_one_log.Goals as goal

pub returns : goal.returns
returns c = log_one
