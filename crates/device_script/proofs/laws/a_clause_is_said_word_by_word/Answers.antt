use Rattle.device_script.proofs.SayingLemmas.{heard_begun, heard_waiting, heard_more}
use Rattle.device_script.proofs.laws.a_clause_is_said_word_by_word.Goals as goal

pub returns : goal.returns
returns c = record { begins = heard_begun; waits = heard_waiting; says = heard_more }
