use Rattle.std.proofs.Common.{inr}
use Rattle.std.proofs.lemmas.Result.{IfOk-weaker}
use Rattle.hs_texts.specs.MissionSpelling.{IsRefusalOf}
use Rattle.commands.specs.Inputs.{IsTold}
use Rattle.commands.specs.Plans.{Plans}
use Rattle.commands.specs.declared.outcome.Outcome.{Outcome}
use Rattle.commands.proofs.InputLemmas.{told}
use Rattle.commands.proofs.planning.plan.Goals as goal

pub returns-in-Err : goal.returns-in-Err
returns-in-Err c =
    let text = c.args.text.now in
    let r = c.in-Err.refusal in
    IfOk-weaker c.refused.result (λ (o : Outcome). IsTold r o.status o.text) (λ (o : Outcome). Plans c.args.budget text o.status o.text)
    (λ o t. inr (t.refused, told (IsRefusalOf text) r o.status o.text c.in-Err.ensures t))
    c.refused.ensures
