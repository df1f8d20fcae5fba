use Rattle.device_script.proofs.SayingLemmas.{clause_of_begin}
use Rattle.device_script.proofs.laws.each_token_takes_the_next_clause_or_the_last.Goals as goal

pub returns : goal.returns
returns c = clause_of_begin
