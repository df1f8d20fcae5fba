use Rattle.std.proofs.Common.{arith}
use Rattle.sim_run.specs.Runs.{told}
use Rattle.exec_main.proofs.FaultLemmas.{made_rose}
use Rattle.exec_main.proofs.top.outcome_of.Goals as goal

pub returns-in_err-request-clause-usage :
    goal.returns-in_err-request-clause-usage
returns-in_err-request-clause-usage g c =
    λ h. c.in_err-request.ensures.usage (grind (arith, h))

pub returns-in_ok-answer-in-Ok-clause-unasked :
    goal.returns-in_ok-answer-in-Ok-clause-unasked
returns-in_ok-answer-in-Ok-clause-unasked g c =
    λ none. absurd (none c.in_ok-request.request c.in_ok-request.ensures.asks)

pub returns-in_ok-answer-in-Ok-clause-device_fault :
    goal.returns-in_ok-answer-in-Ok-clause-device_fault
returns-in_ok-answer-in-Ok-clause-device_fault g c =
    let q = c.in_ok-request.request in
    let o = c.in_ok-answer-in-Ok.field-0 in
    let heard = told g.D.Device.polls g.D.Device.faults c.args.devices.now c.answer.new.devices in
    λ is. made_rose q.command q.budget heard c.as_slice.result.now o.text o.status is c.in_ok-answer-in-Ok.ensures.made
