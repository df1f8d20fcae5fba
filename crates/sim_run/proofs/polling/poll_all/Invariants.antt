use Rattle.std.proofs.Common.{◌≡◌, get_or, map, length, None}
use Rattle.sim_run.specs.Told.{known}
use Rattle.sim_run.proofs.PolledLemmas.{ArePolled}
use Rattle.sim_run.proofs.polling.poll_all.Given as goal

abbrev pub ghost-poll : goal.ghost-poll
ghost-poll g a = get_or g.before a.sv.0 (record { polls = None; faults = 0 })

abbrev pub invariant-loop-i : goal.invariant-loop-i
invariant-loop-i g l = record {
  polled : ArePolled l.i l.polled l.fn.exec l.exec g.before (map (known g.D.Device.polls g.D.Device.faults) l.devices) l.fn.watch.posts.items l.watch.posts.items;
  mark : l.watch.mark ≡ l.fn.watch.mark;
  many : length l.devices ≡ length l.fn.devices;
}
