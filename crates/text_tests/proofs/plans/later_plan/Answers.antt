use Rattle.std.proofs.Common.{◌≡◌, ap, arith}
use Rattle.hs_base.specs.Points.{count}
use Rattle.base_laws.proofs.PointLemmas.{count-push}
use Rattle.text_tests.proofs.plans.later_plan.Goals as goal

pub returns : goal.returns
returns c =
    let before : count c.in_ok-plan.plan.extensions ≡ 8 = ap count c.in_ok-plan.ensures in
    omega (arith, before, c.in_ok-later.ensures, ap count c.in_ok-push.ensures.ok, count-push c.in_ok-plan.plan.extensions c.in_ok-later.field-0)
