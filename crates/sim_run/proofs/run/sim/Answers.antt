use Rattle.std.proofs.Common.{◌≡◌, [], length, ap, sym, subst, Option}
use Rattle.std.proofs.lemmas.Result.{IfOk-weaker}
use Rattle.std.specs.Prelude.{IfSome}
use Rattle.plan_check.specs.Planned.{Planned as Plan}
use Rattle.exec_core.specs.Recorded.{Recorded}
use Rattle.simulation_laws.specs.Simulated.{Attempts, all}
use Rattle.sim_run.specs.Runs.{IsRunOf, attempts_of, given_of, told}
use Rattle.sim_run.proofs.EndedLemmas.{few_at, flight_found, flight_given, no_flight}
use Rattle.sim_run.proofs.run.sim.Goals as goal

pub returns-in-Some-clause-run : goal.returns-in-Some-clause-run
returns-in-Some-clause-run g c =
    let m = c.args.mission.now in
    let heard = told g.D.Device.polls g.D.Device.faults c.args.devices.now c.fly_plan.new.devices in
    let named = (subst (λ (o : Option Plan). IfSome o (λ (p : Plan). (p.mission ≡ m) × (length p.plan.extensions ≡ 1))) c.in-Some.is c.requires.first).0 in
    IfOk-weaker c.fly_plan.result _ _ (λ f h.
    subst (λ (a : Attempts). IsRunOf m c.args.budget (given_of c.args.first) heard f.exec.history a) (sym (ap attempts_of h.0))
    (subst (λ (o : Option Plan). IsRunOf m c.args.budget (given_of o) heard f.exec.history all) (sym c.in-Some.is) (flight_given m c.args.budget heard c.in-Some.plan f.exec named c.requires.one_horizon h.1))) c.fly_plan.ensures.flight

pub returns-in-Some-clause-few : goal.returns-in-Some-clause-few
returns-in-Some-clause-few g c = IfOk-weaker c.fly_plan.result _ _ (λ f h. few_at (told g.D.Device.polls g.D.Device.faults c.args.devices.now c.fly_plan.new.devices) c.in-Some.plan f.exec h.1) c.fly_plan.ensures.flight

pub returns-in-Ok-clause-run : goal.returns-in-Ok-clause-run
returns-in-Ok-clause-run g c =
    let m = c.args.mission.now in
    let heard = told g.D.Device.polls g.D.Device.faults c.args.devices.now c.fly_plan-in-Ok.new.devices in
    IfOk-weaker c.fly_plan-in-Ok.result _ _ (λ f h.
    subst (λ (a : Attempts). IsRunOf m c.args.budget (given_of c.args.first) heard f.exec.history a) (sym (ap attempts_of h.0))
    (subst (λ (o : Option Plan). IsRunOf m c.args.budget (given_of o) heard f.exec.history all) (sym c.in_default.is) (flight_found m c.args.budget heard c.in-Ok.plan f.exec c.in-Ok.ensures.mission c.requires.one_horizon c.in-Ok.ensures.planned h.1))) c.fly_plan-in-Ok.ensures.flight

pub returns-in-Ok-clause-few : goal.returns-in-Ok-clause-few
returns-in-Ok-clause-few g c = IfOk-weaker c.fly_plan-in-Ok.result _ _ (λ f h. few_at (told g.D.Device.polls g.D.Device.faults c.args.devices.now c.fly_plan-in-Ok.new.devices) c.in-Ok.plan f.exec h.1) c.fly_plan-in-Ok.ensures.flight

pub returns-in-Err-clause-run : goal.returns-in-Err-clause-run
returns-in-Err-clause-run g c =
    let m = c.args.mission.now in
    let heard = told g.D.Device.polls g.D.Device.faults c.args.devices.now c.args.devices.now in
    IfOk-weaker c.grounded.result _ _ (λ f h.
    subst (λ (r : Recorded). IsRunOf m c.args.budget (given_of c.args.first) heard r.history (attempts_of f.planned)) (sym h.0)
    (subst (λ (o : Option Plan). IsRunOf m c.args.budget (given_of o) heard [] (attempts_of f.planned)) (sym c.in_default.is)
    (no_flight g.D.Device.polls g.D.Device.faults c.args.devices.now m c.args.budget f.planned c.in-Err.why c.requires.mission c.in-Err.ensures.unplanned h.1))) c.grounded.ensures
