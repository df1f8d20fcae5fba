use Rattle.journal_laws.proofs.RunLemmas.{runs_with_one_log, runs_of_one_log}
use Rattle.journal_laws.proofs.logs.histories_with_one_log_are_one.Goals as goal

pub returns : goal.returns
returns c = record { deeds = runs_with_one_log; one = runs_of_one_log }
