use Rattle.std.proofs.Common.{length, ap, arith}
use Rattle.hs_base.specs.declared.plan.Plan.{Plan}
use Rattle.hs_base.specs.Points.{count}
use Rattle.plan_check.proofs.WithinLemmas.{few_points, few_extensions}
use Rattle.exec_core.proofs.flight.Flight.begin.Goals as goal

pub overflow_cast-extensions : goal.overflow_cast-extensions
overflow_cast-extensions c =
    let p = c.args.live.plan in
    let k = c.plan.ensures.checked in
    record { fits = omega (arith, few_extensions p.mission k.mission p.plan.extensions k.rules, c.len-extensions.ensures, ap (λ (q : Plan). length q.extensions) c.plan.ensures.plan) }

pub horizon_point-mark-requires-clause-small : goal.horizon_point-mark-requires-clause-small
horizon_point-mark-requires-clause-small c =
    let p = c.args.live.plan in
    let k = c.plan.ensures.checked in
    omega (arith, few_points p.mission k.mission p.plan.extensions k.rules, ap (λ (q : Plan). count q.extensions) c.plan-2.ensures.plan)
