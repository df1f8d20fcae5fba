use Rattle.std.proofs.Common.{◌≡◌, inl, inr, sym, ◌∙◌, None}
use Rattle.std.proofs.lemmas.Result.{IfOk-weaker}
use Rattle.sim_run.specs.Runs.{told}
use Rattle.commands.specs.declared.outcome.Outcome.{Outcome}
use Rattle.commands.specs.declared.status.Status.TheVariants.{Refused}
use Rattle.commands.specs.Runs.{IsSimTold}
use Rattle.commands.specs.Sims.{RunsAlone, unbuilt_line}
use Rattle.commands.proofs.simulation.alone.Goals as goal

pub returns-then-len-eq1-clause-runs : goal.returns-then-len-eq1-clause-runs
returns-then-len-eq1-clause-runs g c =
    let m = c.args.mission.now in
    let heard = told g.D.Device.polls g.D.Device.faults c.args.devices.now c.run.new.devices in
    let one = sym c.len.ensures ∙ c.if-len-eq1.true in
    IfOk-weaker c.run.result (λ (o : Outcome). IsSimTold c.args.budget None heard m o.status o.text) (λ (o : Outcome). RunsAlone c.args.budget heard m o.status o.text)
    (λ o k. inl (one, k))
    c.run.ensures.run
