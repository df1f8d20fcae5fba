use Rattle.std.proofs.Common.{◌≡◌, map, take}
use Rattle.hs_base.specs.Schedule.{numbers_from}
use Rattle.hs_base.specs.Fits.{time_at}
use Rattle.dispatcher.proofs.times.times_by_point.Given as goal

abbrev pub invariant-loop-time : goal.invariant-loop-time
invariant-loop-time l = l.by_point.items ≡ map (time_at (take l.time-index l.times)) (numbers_from 0 l.count)
