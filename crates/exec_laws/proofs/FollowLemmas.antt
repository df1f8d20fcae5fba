-- The moment of a dispatch is like the one that it follows.
use Rattle.std.proofs.Common.{ℕ, List}
use Rattle.hs_base.specs.declared.net.Bound.{Bound}
use Rattle.hs_base.specs.declared.net.Net.{Net}
use Rattle.hs_base.specs.Network.{spread}
use Rattle.hs_base.specs.Reduced.{IsReducedOf}
use Rattle.hs_base.specs.Moments.{Moment, HaveSame, AreAlike}
use Rattle.dispatcher.specs.State.{State, moment}
use Rattle.net_laws.proofs.ExactLemmas.{exact}
use Rattle.exec_laws.specs.Follows.{Follows}

-- a reduced network has the schedules of its bounds
pub has_same : (c : ℕ) (k : List Bound) (net : Net) → IsReducedOf c k net → HaveSame (spread net) k
has_same c k net is = record { there = λ t meets. (exact c k net is t).0 meets; back = λ t meets. (exact c k net is t).1 meets }

pub alike : (w : Moment) (s : State) → Follows w s → AreAlike (moment s) w
alike w s f = record { points = f.points; schedules = has_same w.points w.bounds s.net f.reduced; at = f.times; tick = f.tick; observed = f.observed }
