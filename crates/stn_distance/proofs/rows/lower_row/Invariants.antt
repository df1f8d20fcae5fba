use Rattle.std.proofs.Common.{ℕ, ◌<◌, ◌≤◌}
use Rattle.std.specs.Bool.{OnTrue, OnFalse}
use Rattle.hs_base.specs.Schedule.{time_of, Holds}
use Rattle.stn_distance.specs.Causes.{bound_at}
use Rattle.stn_distance.specs.Rows.{Reaches, room}
use Rattle.stn_distance.proofs.rows.lower_row.Given as goal

abbrev pub invariant-loop-bound : goal.invariant-loop-bound
invariant-loop-bound l = record {
  reaches : Reaches l.count l.bounds l.source l.row;
  less : room l.row ≤ room l.initial.row;
  lowered : OnTrue l.lowered (room l.row < room l.initial.row);
  kept : OnFalse l.lowered ((k : ℕ) → k < l.bound-index → Holds (time_of l.row) (bound_at l.bounds k));
}
