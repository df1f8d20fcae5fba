use Rattle.std.proofs.Common.{◌<◌, length, get_or, refl, ◌∙◌, arith}
use Rattle.std.proofs.lemmas.List.{length-set}
use Rattle.std.proofs.lemmas.Option.{slice_get-get_or}
use Rattle.commands.proofs.HeardLemmas.{quiet_begins, quiet_next}
use Rattle.commands.proofs.simulation.load_all.Goals as goal

pub loop-number-init : goal.loop-number-init
loop-number-init g c = record { many = refl; quiet = quiet_begins g.D.Device.polls g.D.Device.faults c.args.devices.now }

pub loop-number-preserved : goal.loop-number-preserved
loop-number-preserved g c =
    let i = c.loop-number.number in
    let devices = c.loop-number.devices in
    let below : i < length devices = omega (arith, c.loop-number-test.true, c.loop-number.auto, c.len-number-end.ensures, c.requires, c.loop-number.invariant.many) in
    record {
      many = length-set devices i c.load.new.self ∙ c.loop-number.invariant.many;
      quiet = quiet_next g.D.Device.polls g.D.Device.faults c.args.devices.now devices i (get_or devices i c.index-devices-number.result) c.load.new.self c.loop-number.invariant.quiet
          (slice_get-get_or devices i c.index-devices-number.result below) c.load.ensures.polls c.load.ensures.faults;
    }

pub returns-in_err-load-clause-quiet : goal.returns-in_err-load-clause-quiet
returns-in_err-load-clause-quiet g c =
    let i = c.loop-number.number in
    let devices = c.loop-number.devices in
    let below : i < length devices = omega (arith, c.loop-number-test.true, c.loop-number.auto, c.len-number-end.ensures, c.requires, c.loop-number.invariant.many) in
    quiet_next g.D.Device.polls g.D.Device.faults c.args.devices.now devices i (get_or devices i c.index-devices-number.result) c.load.new.self c.loop-number.invariant.quiet
    (slice_get-get_or devices i c.index-devices-number.result below) c.load.ensures.polls c.load.ensures.faults
