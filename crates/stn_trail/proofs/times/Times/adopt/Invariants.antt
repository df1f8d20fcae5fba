use Rattle.std.proofs.Common.{◌≡◌, ℕ, ◌<◌, vec_len}
use Rattle.hs_base.specs.Schedule.{time_of}
use Rattle.stn_trail.specs.Moves.{KeepsPast}
use Rattle.stn_trail.proofs.times.Times.adopt.Given as goal

abbrev pub invariant-loop-at : goal.invariant-loop-at
invariant-loop-at l = record {
  adopted : (p : ℕ) → p < l.at → time_of l.self.ticks.items p ≡ time_of l.times p;
  size : vec_len l.self.ticks ≡ vec_len l.fn.self.ticks;
  past : KeepsPast (vec_len l.fn.self.moves) l.fn.self.moves.items l.fn.self.ticks.items l.self.moves.items l.self.ticks.items;
}
