-- What a Dispatch is seen as, and the state that it keeps.
use Rattle.std.specs.Prelude.{◌≡◌, ℕ, ◌<◌, Bool, false, ℤ, pos, ◌+ℤ◌, ◌≤ℤ◌, List, length, map, get_or, set, Option, Some, None}
use Rattle.hs_base.specs.declared.limits.TheConstants.{LAST}
use Rattle.hs_base.specs.declared.net.Net.{Net}
use Rattle.hs_base.specs.declared.plan.Time.{Time}
use Rattle.hs_base.specs.Schedule.{numbers_from}
use Rattle.hs_base.specs.Network.{spread}
use Rattle.hs_base.specs.Reduced.{IsReducedOf}
use Rattle.hs_base.specs.Fits.{Times, time_at}
use Rattle.hs_base.specs.Moments.{Moment}
use Rattle.hs_base.specs.Dispatch.{IsReached}

-- the network, which points are observed, the time of each executed point, and now
pub record State : Type 0 where
  pub net : Net
  pub observed : List Bool
  pub times : List (Option ℤ)
  pub tick : ℤ

-- the times that a list gives
abbrev pub times_in : List (Option ℤ) → Times
times_in ts x = get_or ts x None

-- the number of points
abbrev pub points : State → ℕ
points s = length s.times

abbrev pub time_in : State → Times
time_in s = times_in s.times

abbrev pub is_observed : State → ℕ → Bool
is_observed s x = get_or s.observed x false

-- the network is reduced, each point is marked as observed or not, and some schedule fits the state
pub record IsLawful (s : State) : Type 0 where
  pub reduced : IsReducedOf (points s) (spread s.net) s.net
  pub observed : length s.observed ≡ points s
  pub reached : IsReached (points s) s.net (time_in s) s.tick
  pub last : s.tick ≤ℤ LAST

-- a point that is not executed
pub record IsOpen (s : State) (x : ℕ) : Type 0 where
  pub below : x < points s
  pub none : time_in s x ≡ None

-- the moment: the network's bounds, with the state's points, times and observed points, now
abbrev pub moment : State → Moment
moment s = record { points = points s; bounds = spread s.net; at = time_in s; tick = s.tick; observed = is_observed s }

-- the point is executed now
abbrev pub fired : State → ℕ → State
fired s x = record s { times = set s.times x (Some s.tick) }

-- a tick later
abbrev pub ticked : State → State
ticked s = record s { tick = s.tick +ℤ pos 1 }

-- the state in which a Dispatch begins
abbrev pub begun : Net → List Bool → List Time → ℤ → State
begun net observed times now = record { net = net; observed = observed; times = map (time_at times) (numbers_from 0 (length observed)); tick = now }
