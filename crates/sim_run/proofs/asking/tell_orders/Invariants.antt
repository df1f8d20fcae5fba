use Rattle.std.proofs.Common.{◌≡◌, ◌≤◌, length}
use Rattle.hs_port.specs.Told.{Stays}
use Rattle.sim_run.proofs.asking.tell_orders.Given as goal

abbrev pub invariant-orders : goal.invariant-orders
invariant-orders g l = record {
  left : l.script.left ≡ l.fn.script.left;
  polls : Stays (g.D.Device.polls l.fn.device) (g.D.Device.polls l.device);
  faults : g.D.Device.faults l.fn.device ≤ g.D.Device.faults l.device;
}

abbrev pub decreases-orders : goal.decreases-orders
decreases-orders g l = length l.script.ready
