use Rattle.std.proofs.Common.{◌≡◌, ◌-◌, length, map}
use Rattle.sim_run.specs.Told.{known}
use Rattle.sim_run.proofs.SettleLemmas.{IsTrying}
use Rattle.sim_run.proofs.settling.pass.Given as goal

abbrev pub ghost-try_point : goal.ghost-try_point
ghost-try_point g a = g.before

abbrev pub invariant-points : goal.invariant-points
invariant-points g l = record {
  trying : IsTrying l.tried l.from l.fn.exec l.exec g.before (map (known g.D.Device.polls g.D.Device.faults) l.devices) l.watch;
  many : length l.devices ≡ length l.fn.devices;
}

abbrev pub decreases-points : goal.decreases-points
decreases-points g l = 4294967296 - l.from
