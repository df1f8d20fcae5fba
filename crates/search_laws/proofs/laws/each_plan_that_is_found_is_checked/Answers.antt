use Rattle.search_laws.proofs.TreeLemmas.{found_checked}
use Rattle.search_laws.proofs.laws.each_plan_that_is_found_is_checked.Goals as goal

pub returns : goal.returns
returns c = λ m b limit e may finds. found_checked m b may limit e finds
