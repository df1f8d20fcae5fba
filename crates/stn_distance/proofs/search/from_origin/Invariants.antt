use Rattle.std.proofs.Common.{◌≡◌, ℕ, ◌<◌, ◌≤◌, ◌-ℤ◌}
use Rattle.hs_base.specs.Schedule.{time_of}
use Rattle.stn_distance.proofs.search.from_origin.Given as goal

abbrev pub invariant-loop-time : goal.invariant-loop-time
invariant-loop-time l = record {
  moved : (v : ℕ) → v < l.time-index → time_of l.times v ≡ time_of l.fn.times v -ℤ time_of l.fn.times 0;
  origin_is : l.origin ≡ time_of l.fn.times 0;
  rest : (v : ℕ) → l.time-index ≤ v → time_of l.times v ≡ time_of l.fn.times v;
}
