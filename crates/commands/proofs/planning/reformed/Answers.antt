use Rattle.std.proofs.Common.{[], refl, ap, ◌∙◌, subst}
use Rattle.std.proofs.lemmas.Result.{IfOk-weaker}
use Rattle.hs_base.specs.declared.mission.Mission.{Mission}
use Rattle.hs_base.specs.declared.net.Net.{Net}
use Rattle.hs_base.specs.declared.plan.Plan.{Plan}
use Rattle.hs_base.specs.Bounds.{bounds_of}
use Rattle.hs_texts.specs.NetText.{net_text}
use Rattle.hs_base.specs.Points.{count}
use Rattle.hs_base.specs.Reduced.{IsReducedOf}
use Rattle.plan_check.specs.Planned.{Planned}
use Rattle.commands.specs.declared.outcome.Outcome.{Outcome}
use Rattle.commands.specs.declared.status.Status.TheVariants.{Done}
use Rattle.commands.specs.Plans.{IsNetText}
use Rattle.commands.specs.Searches.{Searches}
use Rattle.commands.specs.Untold.{IsToldWhy}
use Rattle.commands.proofs.SearchLemmas.{plan_told, none_told}
use Rattle.commands.proofs.planning.reformed.Goals as goal

pub returns-in_ok-write_net-in-Ok : goal.returns-in_ok-write_net-in-Ok
returns-in_ok-write_net-in-Ok c =
    let m = c.args.mission.now in
    let es = c.in-Ok.checked.plan.extensions in
    let net = c.in_ok-reform-in-Ok.field-0.net in
    let plan = c.into_parts-checked.ensures.plan ∙ c.in_ok-reform-in-Ok.ensures.plan in
    let reduced = subst (λ (x : Mission). IsReducedOf (count es) (bounds_of x es) net) c.in-Ok.ensures.mission c.in_ok-reform-in-Ok.ensures.net in
    let text =
    c.in_ok-write_net-in-Ok.ensures ∙ ap (λ (q : Plan). net_text m q.extensions c.into_parts-checked.result.2) c.plan.ensures.plan
    ∙ ap (λ (q : Planned). net_text m q.plan.extensions c.into_parts-checked.result.2) plan ∙ ap (λ (n : Net). net_text m es n) c.into_parts-checked.ensures.net
    in
    plan_told m c.args.budget [] (IsNetText m) es Done c.in_ok-write_net-in-Ok.field-0 c.in-Ok.ensures.planned refl (net, reduced, text)

pub returns-in-Err : goal.returns-in-Err
returns-in-Err c =
    let m = c.args.mission.now in
    let nodes = c.args.budget in
    let why = c.in-Err.why in
    IfOk-weaker c.without_plan.result (λ (o : Outcome). IsToldWhy why [] o.status o.text) (λ (o : Outcome). Searches m nodes [] (IsNetText m) o.status o.text)
    (λ o t. none_told m nodes [] (IsNetText m) why o.status o.text c.in-Err.ensures.unplanned t)
    c.without_plan.ensures
