use Rattle.base_laws.proofs.PointLemmas.{named}
use Rattle.base_laws.proofs.points.points_have_names_of_their_own.Goals as goal

pub returns : goal.returns
returns c = record {
  once = λ es x p is. (named es).once x p is;
  ends = λ es v i below. (named es).ends_there v i below;
  horizons = λ es k some below. (named es).marks_there k some below;
}
