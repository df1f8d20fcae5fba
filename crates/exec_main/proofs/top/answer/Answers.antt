use Rattle.std.proofs.Common.{sym, subst}
use Rattle.std.specs.Prelude.{IfOk}
use Rattle.command_line.specs.declared.request.Command.{Command}
use Rattle.commands.specs.declared.outcome.Outcome.{Outcome}
use Rattle.sim_run.specs.Runs.{told}
use Rattle.exec_main.specs.Ground.{Makes}
use Rattle.exec_main.proofs.BuiltLemmas.{only_sim}
use Rattle.exec_main.proofs.top.answer.Goals as goal

pub returns-in_default-clause-made : goal.returns-in_default-clause-made
returns-in_default-clause-made g c =
    let d = c.in_default in
    let is = only_sim c.args.command c.requires.built d.not-Print d.not-Check d.not-Plan d.not-Net in
    let heard = told g.D.Device.polls g.D.Device.faults c.args.devices.now c.sim.new.devices in
    subst (λ (x : Command). IfOk c.sim.result (λ (o : Outcome). Makes x c.args.budget heard c.args.text.now o.status o.text)) (sym is) c.sim.ensures.sims
