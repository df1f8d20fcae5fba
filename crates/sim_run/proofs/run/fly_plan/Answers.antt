use Rattle.std.proofs.Common.{◌≡◌, ◌≤◌, length, ◌∙◌, ap, refl, arith}
use Rattle.std.proofs.lemmas.List.{length-take}
use Rattle.hs_base.specs.declared.mission.Mission.{Mission}
use Rattle.sim_run.proofs.FlightLemmas.{flight_is}
use Rattle.sim_run.proofs.run.fly_plan.Goals as goal

pub returns-clause-flight : goal.returns-clause-flight
returns-clause-flight g c =
    let n_is : c.len-count.result ≡ length c.args.plan.mission.vars = c.len-count.ensures ∙ ap (λ (m : Mission). length m.vars) c.mission.ensures.mission in
    let few : c.len-count.result ≤ length c.args.devices.now = omega (arith, n_is, c.requires.many) in
    (refl, flight_is g.D.Device.polls g.D.Device.faults c.args.plan c.args.devices.now c.fly.new.devices c.len-count.result c.in_ok-fly.field-0 n_is few (c.fly.ensures.many ∙ length-take c.len-count.result c.args.devices.now ∙ omega (arith, few)) c.in_ok-fly.ensures.flown)
