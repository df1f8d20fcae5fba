use Rattle.std.proofs.Common.{arith, ap, length}
use Rattle.hs_base.specs.declared.plan.Plan.{Plan}
use Rattle.plan_check.proofs.WithinLemmas.{few_extensions, few_points}
use Rattle.line_view.proofs.LineLemmas.{timeline_within}
use Rattle.line_view.proofs.shown.line_of.Goals as goal

pub overflow_cast-plans : goal.overflow_cast-plans
overflow_cast-plans c =
    let p = c.args.plan.now in
    let k = c.plan.ensures.checked in
    omega (arith, few_extensions p.mission k.mission p.plan.extensions k.rules, ap (λ (q : Plan). length q.extensions) c.plan.ensures.plan)

pub overflow_cast-place : goal.overflow_cast-place
overflow_cast-place c =
    let p = c.args.plan.now in
    let k = c.plan.ensures.checked in
    omega (arith, few_points p.mission k.mission p.plan.extensions k.rules, timeline_within p.plan.extensions c.args.sv.0, c.current_place-place.ensures.within)
