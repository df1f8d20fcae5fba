-- A dispatch that follows a moment.
use Rattle.std.specs.Prelude.{◌≡◌, length}
use Rattle.hs_base.specs.Reduced.{IsReducedOf}
use Rattle.hs_base.specs.Moments.{Moment}
use Rattle.dispatcher.specs.State.{State, time_in, is_observed}

-- it has the reduced network of the moment's bounds, and the moment's points, executed times, observed points and tick
pub record Follows (w : Moment) (s : State) : Type 0 where
  pub reduced : IsReducedOf w.points w.bounds s.net
  pub points : length s.times ≡ w.points
  pub times : time_in s ≡ w.at
  pub observed : is_observed s ≡ w.observed
  pub tick : s.tick ≡ w.tick
