use Rattle.std.proofs.Common.{◌++◌, ◌∷◌, []}
use Rattle.std.proofs.lemmas.List.Elements.{All-push}
use Rattle.stn_distance.specs.Ranges.{IsInRange}
use Rattle.stn_distance.proofs.RangeLemmas.{StaysInTime-contained}
use Rattle.bench_networks.proofs.RangeLemmas.{HasRanges-push}
use Rattle.bench_networks.proofs.networks.network.Goals as goal

pub loop-preserved : goal.loop-preserved
loop-preserved c =
    let h = c.loop.invariant in let n = c.args.n in let bounds = c.loop.bounds.items in
    rw (c.in_ok-push-2.ensures.items, c.in_ok-push.ensures.items) (record {
      range = All-push (IsInRange n) (bounds ++ c.spared.result ∷ []) c.spared-in-loop.result (All-push (IsInRange n) bounds c.spared.result h.range c.spared.ensures) c.spared-in-loop.ensures;
      ranges = HasRanges-push n (bounds ++ c.spared.result ∷ []) c.spared-in-loop.result (HasRanges-push n bounds c.spared.result h.ranges);
    })

pub returns-clause-stays : goal.returns-clause-stays
returns-clause-stays c = StaysInTime-contained c.args.n c.loop.bounds.items c.loop.invariant.ranges.each
