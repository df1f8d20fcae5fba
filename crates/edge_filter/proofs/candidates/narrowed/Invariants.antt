use Rattle.std.proofs.Common.{length}
use Rattle.stn_distance.specs.Rows.{items_of}
use Rattle.edge_filter.proofs.CandidateLemmas.{IsNarrowing}
use Rattle.edge_filter.proofs.candidates.narrowed.Given as goal

abbrev pub invariant-candidates : goal.invariant-candidates
invariant-candidates l = IsNarrowing (items_of l.rows) l.others l.waiting.items l.candidates.items

abbrev pub decreases-candidates : goal.decreases-candidates
decreases-candidates l = length l.waiting.items
