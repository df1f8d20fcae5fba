use Rattle.search_tree.proofs.SizeLemmas.{few_points}
use Rattle.search_tree.proofs.laws.a_partial_plan_has_few_points.Goals as goal

pub returns : goal.returns
returns c = few_points
