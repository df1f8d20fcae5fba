use Rattle.std.proofs.Common.{◌≡◌, ◌<◌, ℕ, length, ◌+ℤ◌}
use Rattle.hs_base.specs.Schedule.{time_of}
use Rattle.stn_distance.proofs.rows.row_by_origin.Given as goal

abbrev pub invariant-loop-time : goal.invariant-loop-time
invariant-loop-time l = record {
  row_len : length l.row.items ≡ l.time-index;
  read : (v : ℕ) → v < l.time-index → time_of l.row.items v ≡ l.back +ℤ time_of l.origin v;
}
