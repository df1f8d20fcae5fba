use Rattle.std.proofs.Common.{List, Some, ◌∙◌, subst}
use Rattle.std.proofs.lemmas.Result.{IfOk-weaker}
use Rattle.hs_base.specs.declared.plan.Extension.{Extension}
use Rattle.hs_base.specs.Checked.{Checked}
use Rattle.sim_run.specs.Runs.{given_of, told}
use Rattle.commands.specs.Runs.{IsSimTold}
use Rattle.commands.specs.Sims.{Runs}
use Rattle.commands.specs.declared.outcome.Outcome.{Outcome}
use Rattle.commands.proofs.AnswerLemmas.{ran_by_plan}
use Rattle.commands.proofs.simulation.check_and_run.Goals as goal

pub returns-in-Ok-clause-runs : goal.returns-in-Ok-clause-runs
returns-in-Ok-clause-runs g c =
    let m = c.args.mission.now in
    let nodes = c.args.budget in
    let es = c.args.plan.now.extensions in
    let heard = told g.D.Device.polls g.D.Device.faults c.args.devices.now c.run.new.devices in
    let plan = c.in-Ok.checked in
    let shown = c.as_slice-extensions.ensures in
    IfOk-weaker c.run.result (λ (o : Outcome). IsSimTold nodes (given_of (Some plan)) heard m o.status o.text) (λ (o : Outcome). Runs nodes heard m es o.status o.text)
    (λ o t. ran_by_plan nodes heard m es plan o.status o.text c.requires.one_horizon c.requires.one (subst (λ (l : List Extension). Checked m l) shown c.in-Ok.ensures.checked) (c.in-Ok.ensures.sound.1 ∙ shown) t)
    c.run.ensures.run
