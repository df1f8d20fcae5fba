use Rattle.search_laws.proofs.TreeLemmas.{all_taken, none_left_out}
use Rattle.plan_search.proofs.laws.a_filter_that_takes_each_plan_leaves_none_out.Goals as goal

pub returns : goal.returns
returns g c = record {
  some = λ filter m b limit found all finds. none_left_out m b (g.F.Filter.test filter) all limit found finds;
  all = λ filter m b limit found all finds. all_taken m b (g.F.Filter.test filter) all limit found finds;
}
