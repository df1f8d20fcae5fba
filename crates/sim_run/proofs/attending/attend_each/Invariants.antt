use Rattle.std.proofs.Common.{◌≡◌, get_or, map, length, None}
use Rattle.sim_run.specs.Told.{known}
use Rattle.sim_run.proofs.LookingLemmas.{AreLooking}
use Rattle.sim_run.proofs.attending.attend_each.Given as goal

abbrev pub ghost-attend : goal.ghost-attend
ghost-attend g a = get_or g.before a.sv.0 (record { polls = None; faults = 0 })

abbrev pub invariant-loop-i : goal.invariant-loop-i
invariant-loop-i g l = record {
  looking : AreLooking l.i l.exec g.before (map (known g.D.Device.polls g.D.Device.faults) l.devices) l.posts.items;
  same : l.exec ≡ l.fn.exec;
  many : length l.devices ≡ length l.fn.devices;
}
