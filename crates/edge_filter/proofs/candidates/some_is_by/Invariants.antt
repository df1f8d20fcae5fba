use Rattle.std.proofs.Common.{◌≡◌, take, false}
use Rattle.stn_distance.specs.Rows.{items_of}
use Rattle.edge_filter.specs.Candidates.{some_passes}
use Rattle.edge_filter.proofs.candidates.some_is_by.Given as goal

abbrev pub invariant-loop-candidate : goal.invariant-loop-candidate
invariant-loop-candidate l = some_passes (items_of l.rows) (take l.candidate-index l.candidates) l.other ≡ false
