use Rattle.text_laws.proofs.RefusalLemmas.{spelled_or_refused, read_refusal_one}
use Rattle.text_laws.proofs.reading.a_text_has_one_answer.Goals as goal

pub returns : goal.returns
returns c = record { spelled = spelled_or_refused; refused = read_refusal_one }
