use Rattle.std.proofs.Common.{List, ℕ, subst, inl, inr}
use Rattle.std.specs.Prelude.{IfOk}
use Rattle.std.proofs.lemmas.Result.{IfOk-weaker}
use Rattle.hs_texts.specs.Pieces.{IsCutRefusal}
use Rattle.text_laws.proofs.RefusalLemmas.{text_or_refused}
use Rattle.sim_run.specs.Runs.{told as heard_of}
use Rattle.commands.specs.declared.outcome.Outcome.{Outcome}
use Rattle.commands.specs.Inputs.{IsFrontRefusalOf, IsTold}
use Rattle.commands.specs.Sims.{Sims, IsRunRefusal}
use Rattle.commands.proofs.InputLemmas.{wider, told}
use Rattle.commands.proofs.simulation.sim.Goals as goal

pub returns-in-Err-clause-sims : goal.returns-in-Err-clause-sims
returns-in-Err-clause-sims g c =
    let text = c.args.text.now in
    let r = c.in-Err.refusal in
    let heard = heard_of g.D.Device.polls g.D.Device.faults c.args.devices.now c.args.devices.now in
    let due = wider (IsFrontRefusalOf text) (IsRunRefusal text) (λ q k. inl k) r c.in-Err.ensures in
    IfOk-weaker c.refused.result (λ (o : Outcome). IsTold r o.status o.text) (λ (o : Outcome). Sims c.args.budget heard text o.status o.text)
    (λ o t. inr (t.refused, told (IsRunRefusal text) r o.status o.text due t))
    c.refused.ensures

pub returns-in-Ok-cut-clause-sims : goal.returns-in-Ok-cut-clause-sims
returns-in-Ok-cut-clause-sims g c =
    let heard = heard_of g.D.Device.polls g.D.Device.faults c.args.devices.now c.behind.new.devices in
    subst (λ (bytes : List ℕ). IfOk c.behind.result (λ (o : Outcome). Sims c.args.budget heard bytes o.status o.text)) c.in-Ok-cut.ensures.0 c.behind.ensures.sims

pub returns-clause-sims : goal.returns-clause-sims
returns-clause-sims g c =
    let text = c.args.text.now in
    let r = c.in-Err-cut.refusal in
    let heard = heard_of g.D.Device.polls g.D.Device.faults c.args.devices.now c.args.devices.now in
    let front = c.in-Ok.ensures.spells in
    let due = wider (IsCutRefusal text) (IsRunRefusal text) (λ q k. absurd (text_or_refused text front.pieces q front.text k)) r c.in-Err-cut.ensures in
    IfOk-weaker c.refused-in-Err-cut.result (λ (o : Outcome). IsTold r o.status o.text) (λ (o : Outcome). Sims c.args.budget heard text o.status o.text)
    (λ o t. inr (t.refused, told (IsRunRefusal text) r o.status o.text due t))
    c.refused-in-Err-cut.ensures
