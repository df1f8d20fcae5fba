use Rattle.std.proofs.Common.{All}
use Rattle.stn_distance.specs.Ranges.{IsInRange}
use Rattle.bench_networks.specs.Ranges.{HasRanges}
use Rattle.bench_networks.proofs.networks.ranges.Given as goal

abbrev pub invariant-loop-point : goal.invariant-loop-point
invariant-loop-point l = record {
  range : All (IsInRange l.n) l.bounds.items;
  ranges : HasRanges l.point l.bounds.items;
}
