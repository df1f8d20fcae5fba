use Rattle.std.proofs.Common.{◌≡◌, List, ap, ◌∙◌, ◌++◌, ◌∷◌, [], arith}
use Rattle.hs_base.specs.declared.plan.Plan.{Plan}
use Rattle.hs_base.specs.declared.plan.Extension.{Extension}
use Rattle.hs_base.specs.Points.{count}
use Rattle.hs_base.specs.Checked.{joined}
use Rattle.plan_check.proofs.WithinLemmas.{few_points}
use Rattle.plan_check.proofs.checked_plan.CheckedPlan.joined.Goals as goal

pub of-requires : goal.of-requires
of-requires c =
    let all = joined c.args.self.now.plan.extensions c.args.extension in
    let few = few_points c.args.self.now.mission c.requires.mission all c.requires.rules in
    let is : c.as_slice.result.now ≡ all = c.as_slice.ensures ∙ c.in_ok-push.ensures.ok ∙ ap (λ (p : Plan). joined p.extensions c.args.extension) (c.in_ok-plan.ensures ∙ ap (λ p. p.plan) c.self.view_is) in
    omega (arith, few, ap count is)
