use Rattle.std.proofs.Common.{◌≡◌, length, map}
use Rattle.sim_run.specs.Told.{known}
use Rattle.sim_run.specs.Moves.{GoesOn}
use Rattle.sim_run.specs.Parts.{IsReady}
use Rattle.flight_laws.specs.Flights.{steps_left}
use Rattle.sim_run.proofs.settling.settle.Given as goal

abbrev pub ghost-pass : goal.ghost-pass
ghost-pass g a = g.before

abbrev pub invariant-passes : goal.invariant-passes
invariant-passes g l = record {
  ready : IsReady l.exec g.before (map (known g.D.Device.polls g.D.Device.faults) l.devices) l.watch;
  goes_on : GoesOn l.fn.exec l.exec;
  many : length l.devices ≡ length l.fn.devices;
}

abbrev pub decreases-passes : goal.decreases-passes
decreases-passes g l = steps_left l.exec.history
