use Rattle.text_laws.proofs.RefusalLemmas.{text_or_refused, cut_refusal_one}
use Rattle.text_laws.proofs.cutting.the_cut_has_one_answer.Goals as goal

pub returns : goal.returns
returns c = record { text = text_or_refused; refusal = cut_refusal_one }
