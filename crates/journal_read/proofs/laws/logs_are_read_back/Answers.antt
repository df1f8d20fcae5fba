use Rattle.log_laws.specs.LogText.{log_text}
use Rattle.journal_read.specs.NotedLogs.{noted_of}
use Rattle.journal_read.proofs.LogMeaningLemmas.{spelled_or_refusal, log_one}
use Rattle.journal_read.proofs.NotedLemmas.{log_spelled}
use Rattle.journal_read.proofs.laws.logs_are_read_back.Goals as goal

pub returns : goal.returns
returns c = record {
  spelled = log_spelled;
  alone = λ m h ns k short s. log_one m (log_text m h) 0 ns (noted_of h) s (log_spelled m h k short);
  accepted = λ m h r k short s. spelled_or_refusal m (log_text m h) 0 (noted_of h) r (log_spelled m h k short) s;
}
