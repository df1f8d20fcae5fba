use Rattle.std.proofs.Common.{length, ap, arith}
use Rattle.plan_index.specs.Contents.{Contents}
use Rattle.plan_check.proofs.WithinLemmas.{few_points}
use Rattle.plan_check.proofs.rules.check_rules.Goals as goal

pub extend-requires : goal.extend-requires
extend-requires c =
    let few = few_points c.args.mission.now c.requires.checked.mission c.args.plan.now.extensions c.requires.checked.rules in
    let most = c.in_ok-check_form.ensures.kept.1.0.tokens in
    record { small = omega (arith, few, most, ap (λ (x : Contents). length x.points) c.requires.index) }
