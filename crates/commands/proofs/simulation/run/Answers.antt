use Rattle.std.proofs.Common.{ℕ, sym, subst}
use Rattle.std.proofs.lemmas.Result.{IfOk-weaker}
use Rattle.hs_base.specs.declared.mission.Mission.{Mission}
use Rattle.hs_machine.specs.Reports.{Polls}
use Rattle.sim_run.specs.Runs.{IsRunOf, attempts_of, given_of, told}
use Rattle.commands.specs.Runs.{IsSimTold}
use Rattle.commands.specs.declared.outcome.Outcome.{Outcome}
use Rattle.commands.proofs.EndLemmas.{heard_more}
use Rattle.commands.proofs.HeardLemmas.{added_later, rose_all}
use Rattle.commands.proofs.simulation.run.Goals as goal

pub returns-clause-run : goal.returns-clause-run
returns-clause-run g c =
    let polls = g.D.Device.polls in
    let faults = g.D.Device.faults in
    let m = c.args.mission.now in
    let nodes = c.args.budget in
    let given = given_of c.args.first in
    let begun = c.args.devices.now in
    let loaded = c.load_all.new.devices in
    let after = c.sim.new.devices in
    let part = told polls faults loaded after in
    let whole = told polls faults begun after in
    let flown = c.in_ok-flown.flown in
    let named = c.in_ok-flown.ensures.mission in
    let same = sym c.load_all.ensures.many in
    let quiet = c.load_all.ensures.quiet in
    let run = subst (λ (n : Mission). IsRunOf n nodes given part flown.exec.history (attempts_of flown.planned)) (sym named) c.in_ok-flown.ensures.run in
    IfOk-weaker c.tell.result (λ (o : Outcome). IsSimTold nodes given part flown.exec.mission o.status o.text) (λ (o : Outcome). IsSimTold nodes given whole m o.status o.text)
    (λ o t. heard_more nodes given part whole m o.status o.text (λ (l : ℕ → Polls). added_later polls faults begun loaded after l same quiet) (λ d. rose_all polls faults begun loaded after d same quiet)
    (subst (λ (n : Mission). IsSimTold nodes given part n o.status o.text) named t))
    (c.tell.ensures nodes given part run)
