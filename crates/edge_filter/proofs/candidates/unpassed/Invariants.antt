use Rattle.std.proofs.Common.{take}
use Rattle.stn_distance.specs.Rows.{items_of}
use Rattle.edge_filter.specs.Candidates.{AreMarked}
use Rattle.edge_filter.proofs.candidates.unpassed.Given as goal

abbrev pub invariant-loop-candidate : goal.invariant-loop-candidate
invariant-loop-candidate l = AreMarked (items_of l.rows) l.candidates (take l.candidate-index l.candidates) l.marks.items
