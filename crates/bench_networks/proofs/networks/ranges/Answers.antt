use Rattle.std.proofs.Common.{◌++◌, ◌∷◌, [], pos, arith}
use Rattle.std.proofs.lemmas.Int.{ints}
use Rattle.std.proofs.lemmas.List.Elements.{All-push}
use Rattle.hs_base.specs.declared.limits.TheConstants.{LAST}
use Rattle.hs_base.specs.Schedule.{bound}
use Rattle.stn_distance.specs.Ranges.{IsInRange}
use Rattle.bench_networks.proofs.RangeLemmas.{HasRanges-more}
use Rattle.bench_networks.proofs.networks.ranges.Goals as goal

pub loop-point-preserved : goal.loop-point-preserved
loop-point-preserved c =
    let h = c.loop-point.invariant in let n = c.args.n in let p = c.loop-point.point in let bounds = c.loop-point.bounds.items in
    rw (c.in_ok-push-2.ensures.items, c.in_ok-push.ensures.items) (record {
      range = All-push (IsInRange n) (bounds ++ bound p 0 (pos 0) ∷ []) (bound 0 p LAST)
          (All-push (IsInRange n) bounds (bound p 0 (pos 0)) h.range (record { from_below = omega arith; to_below = omega arith; low = omega (arith, ints); high = omega (arith, ints) }))
          (record { from_below = omega arith; to_below = omega arith; low = omega (arith, ints); high = omega (arith, ints) });
      ranges = HasRanges-more p bounds h.ranges;
    })

pub returns-clause-ranges : goal.returns-clause-ranges
returns-clause-ranges c = record { each = λ p some l. c.loop-point.invariant.ranges.each p some (omega arith) }
