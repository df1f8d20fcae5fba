use Rattle.log_laws.proofs.LogSpellingLemmas.{log_is_text}
use Rattle.log_laws.proofs.logs.log_texts_are_sentences.Goals as goal

pub returns : goal.returns
returns c = log_is_text
