use Rattle.std.proofs.Common.{[], refl, ap, ◌∙◌, arith}
use Rattle.std.proofs.lemmas.Result.{IfOk-weaker}
use Rattle.hs_base.specs.declared.plan.Plan.{Plan}
use Rattle.hs_texts.specs.PlanText.{plan_text}
use Rattle.hs_base.specs.Points.{count}
use Rattle.plan_check.proofs.WithinLemmas.{few_points}
use Rattle.commands.specs.declared.outcome.Outcome.{Outcome}
use Rattle.commands.specs.declared.status.Status.TheVariants.{Done}
use Rattle.commands.specs.Plans.{IsPlanText}
use Rattle.commands.specs.Searches.{Searches}
use Rattle.commands.specs.Untold.{IsToldWhy}
use Rattle.commands.proofs.SearchLemmas.{plan_told, none_told}
use Rattle.commands.proofs.planning.planned.Goals as goal

pub write-requires : goal.write-requires
write-requires c =
    let p = c.in-Ok.checked in
    let k = c.in-Ok.ensures.planned.checked in
    omega (arith, few_points c.args.mission.now k.mission p.plan.extensions k.rules, ap (λ (q : Plan). count q.extensions) c.plan.ensures.plan)

pub returns-in_ok-write-in-Ok : goal.returns-in_ok-write-in-Ok
returns-in_ok-write-in-Ok c =
    let m = c.args.mission.now in
    let text = c.in_ok-write-in-Ok.ensures.text ∙ ap (λ (q : Plan). plan_text m q.extensions) c.plan.ensures.plan in
    plan_told m c.args.budget [] (IsPlanText m) c.in-Ok.checked.plan.extensions Done c.in_ok-write-in-Ok.field-0 c.in-Ok.ensures.planned refl text

pub returns-in-Err : goal.returns-in-Err
returns-in-Err c =
    let m = c.args.mission.now in
    let nodes = c.args.budget in
    let why = c.in-Err.why in
    IfOk-weaker c.without_plan.result (λ (o : Outcome). IsToldWhy why [] o.status o.text) (λ (o : Outcome). Searches m nodes [] (IsPlanText m) o.status o.text)
    (λ o t. none_told m nodes [] (IsPlanText m) why o.status o.text c.in-Err.ensures.unplanned t)
    c.without_plan.ensures
