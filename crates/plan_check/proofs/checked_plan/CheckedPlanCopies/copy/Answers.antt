use Rattle.std.proofs.Common.{◌≡◌, List, ap, ◌∙◌, arith}
use Rattle.hs_base.specs.declared.plan.Plan.{Plan}
use Rattle.hs_base.specs.Points.{count}
use Rattle.plan_check.proofs.WithinLemmas.{few_points}
use Rattle.plan_check.proofs.checked_plan.CheckedPlanCopies.copy.Goals as goal

pub of-requires : goal.of-requires
of-requires c =
    let es = c.self.inside.plan.extensions in
    let few = few_points c.self.inside.mission c.self.invariant.checked.mission es c.self.invariant.checked.rules in
    let is : c.as_slice.result.now ≡ es = c.as_slice.ensures ∙ ap (λ (p : Plan). p.extensions) c.in_ok-plan.ensures in
    omega (arith, few, ap count is)
