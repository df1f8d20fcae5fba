use Rattle.std.proofs.Common.{ℕ, ◌≡◌, Some, length, slice_get}
use Rattle.timeline_db.specs.Laying.{first_line}
use Rattle.timeline_db.specs.Lines.{Shown}
use Rattle.timeline_db.proofs.laying.first_lines.Given as goal

abbrev pub invariant-loop-sv : goal.invariant-loop-sv
invariant-loop-sv l = record {
  size : length l.lines.items ≡ l.sv;
  each : (v : ℕ) (s : Shown) → slice_get l.lines.items v ≡ Some s → s ≡ first_line l.mission l.first v;
}
