use Rattle.std.proofs.Common.{◌≡◌, length}
use Rattle.sim_run.specs.Runs.{told}
use Rattle.commands.specs.Runs.{AreQuiet}
use Rattle.commands.proofs.simulation.load_all.Given as goal

abbrev pub invariant-loop-number : goal.invariant-loop-number
invariant-loop-number g l = record {
  many : length l.devices ≡ length l.fn.devices;
  quiet : AreQuiet (told g.D.Device.polls g.D.Device.faults l.fn.devices l.devices);
}
