use Rattle.std.proofs.Common.{inl, inr, sym, ◌∙◌}
use Rattle.std.proofs.lemmas.Result.{IfOk-weaker}
use Rattle.hs_texts.specs.PlanSpelling.{IsPlanRefusal}
use Rattle.sim_run.specs.Runs.{told as heard_of}
use Rattle.commands.specs.declared.outcome.Outcome.{Outcome}
use Rattle.commands.specs.Inputs.{IsTold}
use Rattle.commands.specs.Sims.{Runs, RunsAlone, Sims, IsRunRefusal}
use Rattle.commands.proofs.InputLemmas.{wider, told}
use Rattle.commands.proofs.GivenLemmas.{ends_at, goes_on}
use Rattle.commands.proofs.simulation.behind.Goals as goal

pub returns-then-used-count-clause-sims : goal.returns-then-used-count-clause-sims
returns-then-used-count-clause-sims g c =
    let pieces = c.args.pieces.now in
    let m = c.args.mission.now in
    let used = c.args.used in
    let nodes = c.args.budget in
    let heard = heard_of g.D.Device.polls g.D.Device.faults c.args.devices.now c.alone.new.devices in
    let ends = ends_at pieces.bytes pieces.pieces used c.requires.cut (c.if-used-count.true ∙ c.count.ensures) in
    IfOk-weaker c.alone.result (λ (o : Outcome). RunsAlone nodes heard m o.status o.text) (λ (o : Outcome). Sims nodes heard pieces.bytes o.status o.text)
    (λ o k. inl (inr (record { mission = m; used = used; front = c.requires.front; ends = ends; runs = k })))
    c.alone.ensures.runs

pub returns-in-Ok-clause-sims : goal.returns-in-Ok-clause-sims
returns-in-Ok-clause-sims g c =
    let bytes = c.args.pieces.now.bytes in
    let m = c.args.mission.now in
    let es = c.in-Ok.plan.extensions in
    let heard = heard_of g.D.Device.polls g.D.Device.faults c.args.devices.now c.planned.new.devices in
    IfOk-weaker c.planned.result (λ (o : Outcome). Runs c.args.budget heard m es o.status o.text) (λ (o : Outcome). Sims c.args.budget heard bytes o.status o.text)
    (λ o k. inl (inl (record { mission = m; plan = es; given = record { used = c.args.used; mission = c.requires.front; plan = c.in-Ok.ensures }; runs = k })))
    c.planned.ensures.runs

pub returns-in-Err-clause-sims : goal.returns-in-Err-clause-sims
returns-in-Err-clause-sims g c =
    let pieces = c.args.pieces.now in
    let bytes = pieces.bytes in
    let m = c.args.mission.now in
    let used = c.args.used in
    let r = c.in-Err.refusal in
    let heard = heard_of g.D.Device.polls g.D.Device.faults c.args.devices.now c.args.devices.now in
    let some = goes_on bytes pieces.pieces used c.requires.cut (λ e. c.if-used-count.false (e ∙ sym c.count.ensures)) in
    let due = wider (IsPlanRefusal m bytes used) (IsRunRefusal bytes) (λ q k. inr (record { behind = record { mission = m; used = used; front = c.requires.front; plan = k }; some = some })) r c.in-Err.ensures in
    IfOk-weaker c.refused.result (λ (o : Outcome). IsTold r o.status o.text) (λ (o : Outcome). Sims c.args.budget heard bytes o.status o.text)
    (λ o t. inr (t.refused, told (IsRunRefusal bytes) r o.status o.text due t))
    c.refused.ensures
