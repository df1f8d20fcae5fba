use Rattle.std.proofs.Common.{ℕ, ◌≡◌, Some, length, slice_get}
use Rattle.timeline_db.specs.Laying.{laid_line}
use Rattle.timeline_db.specs.Lines.{Shown}
use Rattle.timeline_db.proofs.laying.lines_of.Given as goal

abbrev pub invariant-loop-sv : goal.invariant-loop-sv
invariant-loop-sv l = record {
  size : length l.lines.items ≡ l.sv;
  each : (v : ℕ) (s : Shown) → slice_get l.lines.items v ≡ Some s → s ≡ laid_line l.index.tokens l.index.points v;
}
