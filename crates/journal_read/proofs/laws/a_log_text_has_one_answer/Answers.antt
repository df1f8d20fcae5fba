use Rattle.journal_read.proofs.LogMeaningLemmas.{spelled_or_refusal, refusal_one}
use Rattle.journal_read.proofs.laws.a_log_text_has_one_answer.Goals as goal

pub returns : goal.returns
returns c = record { spelled = spelled_or_refusal; refused = refusal_one }
