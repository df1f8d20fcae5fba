use Rattle.std.proofs.Common.{ℕ, ◌≡◌, ◌<◌, ◌≤◌, Some, length, slice_get}
use Rattle.timeline_db.specs.Laying.{NotesLast}
use Rattle.timeline_db.specs.Lines.{Shown}
use Rattle.timeline_db.proofs.laying.note_all.Given as goal

abbrev pub invariant-loop-sv : goal.invariant-loop-sv
invariant-loop-sv l = record {
  size : length l.lines ≡ length l.initial.lines;
  noted : (v : ℕ) (s : Shown) → v < l.sv → slice_get l.initial.lines v ≡ Some s → (r : Shown) × (slice_get l.lines v ≡ Some r) × NotesLast l.mission l.extensions v s r;
  rest : (v : ℕ) (s : Shown) → l.sv ≤ v → slice_get l.initial.lines v ≡ Some s → slice_get l.lines v ≡ Some s;
}
