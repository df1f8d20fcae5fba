use Rattle.search_laws.proofs.OneLemmas.{one_taken}
use Rattle.plan_search.proofs.laws.a_search_with_a_filter_finds_one_answer.Goals as goal

pub returns : goal.returns
returns g c = λ filter m b limit f h p q. one_taken (g.F.Filter.test filter) m b limit f h p q
