use Rattle.std.proofs.Common.{length, ap, arith}
use Rattle.plan_index.specs.Contents.{Contents}
use Rattle.plan_check.proofs.LimitLemmas.{free_is}
use Rattle.plan_check.proofs.limits.count_free.Goals as goal

pub returns : goal.returns
returns c = λ es is.
    omega (
      arith,
      free_is es c.args.extension.now,
      ap (λ (x : Contents). length x.points) is,
      ap (λ (x : Contents). length x.fixed) is,
      c.saturating_sub.ensures,
      c.points.ensures,
      c.len.ensures,
      ap length c.fixed.ensures,
      c.len-2.ensures,
    )
