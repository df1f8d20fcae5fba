use Rattle.search_laws.proofs.OneLemmas.{one_plan}
use Rattle.search_laws.proofs.laws.a_search_finds_one_answer.Goals as goal

pub returns : goal.returns
returns c = λ m b limit f g p q. one_plan m b limit f g p q
