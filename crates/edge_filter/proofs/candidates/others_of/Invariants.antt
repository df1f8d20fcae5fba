use Rattle.std.proofs.Common.{All}
use Rattle.edge_filter.specs.Candidates.{IsOther, HasOthers}
use Rattle.edge_filter.proofs.candidates.others_of.Given as goal

abbrev pub invariant-loop-other : goal.invariant-loop-other
invariant-loop-other l = record {
  each : All (IsOther l.side l.row l.place) l.others.items;
  all : HasOthers l.side l.row l.place l.other l.others.items;
}
