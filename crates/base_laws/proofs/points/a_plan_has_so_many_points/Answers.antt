use Rattle.base_laws.proofs.PointLemmas.{count_is}
use Rattle.base_laws.proofs.points.a_plan_has_so_many_points.Goals as goal

pub returns : goal.returns
returns c = count_is
