use Rattle.search_laws.proofs.TreeLemmas.{found_where_checked}
use Rattle.plan_search.proofs.laws.each_plan_that_is_taken_is_checked.Goals as goal

pub returns : goal.returns
returns g c = λ filter m b limit e may finds. found_where_checked m b may (g.F.Filter.test filter) limit e finds
