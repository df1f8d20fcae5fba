use Rattle.std.proofs.Common.{All}
use Rattle.stn_distance.specs.Ranges.{IsInRange}
use Rattle.bench_networks.specs.Ranges.{HasRanges}
use Rattle.bench_networks.proofs.networks.network.Given as goal

abbrev pub invariant-loop : goal.invariant-loop
invariant-loop l = record {
  range : All (IsInRange l.n) l.bounds.items;
  ranges : HasRanges l.n l.bounds.items;
}
