use Rattle.std.proofs.Common.{◌≡◌, ◌<◌, ℕ, ℤ, length, get_or}
use Rattle.local_propagate.specs.Windows.{time_of}
use Rattle.dispatcher.specs.State.{times_in}
use Rattle.dispatcher.specs.Places.{place_at}
use Rattle.dispatcher.specs.Index.{wait}
use Rattle.dispatcher.proofs.waits.waits_of.Given as goal

abbrev pub invariant-loop-x : goal.invariant-loop-x
invariant-loop-x l = record {
  points : length l.until ≡ length l.times;
  each : (y : ℕ) (d : ℤ) → y < l.x → get_or l.until y d ≡ wait (times_in l.times y) (time_of l.windows (place_at l.places y).group) (place_at l.places y).offset;
}
