use Rattle.std.proofs.Common.{map}
use Rattle.sim_run.specs.Told.{known}
use Rattle.sim_run.proofs.flight.fly.Given as goal

abbrev pub ghost-fly_on : goal.ghost-fly_on
ghost-fly_on g a = map (known g.D.Device.polls g.D.Device.faults) a.devices.now
