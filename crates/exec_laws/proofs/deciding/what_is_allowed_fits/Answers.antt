use Rattle.hs_base.specs.Schedule.{numbers_from}
use Rattle.net_laws.proofs.LeaderLemmas.{earliest}
use Rattle.exec_laws.specs.Allowing.{floor}
use Rattle.exec_laws.proofs.EarliestLemmas.{allowed, earliest_fits}
use Rattle.exec_laws.proofs.deciding.what_is_allowed_fits.Goals as goal

pub returns : goal.returns
returns c = record {
  fits = λ n k d at t table origin within allows. (earliest d (floor at t) 0 (numbers_from 0 n), earliest_fits n k d table at t origin within allows);
  allows = λ n k d at t s table f. allowed n k d table at t s f;
}
