use Rattle.base_laws.proofs.PointLemmas.{ending_kept, start_kept, horizon_kept, horizon_number}
use Rattle.base_laws.proofs.points.points_keep_their_numbers.Goals as goal

pub returns : goal.returns
returns c = record { ends = ending_kept; starts = start_kept; horizons = horizon_kept; new = horizon_number }
