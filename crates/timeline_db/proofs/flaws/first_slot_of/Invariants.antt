use Rattle.std.proofs.Common.{ℕ, ◌≡◌, ◌<◌, [], Some, slice_get}
use Rattle.search_tree.specs.Flaws.{slots}
use Rattle.timeline_db.specs.Lines.{Shown, row_of}
use Rattle.timeline_db.proofs.flaws.first_slot_of.Given as goal

abbrev pub invariant-loop-sv : goal.invariant-loop-sv
invariant-loop-sv l = (v : ℕ) (s : Shown) → v < l.sv → slice_get l.lines v ≡ Some s → slots (row_of s) ≡ []
