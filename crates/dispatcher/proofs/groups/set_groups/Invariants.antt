use Rattle.std.proofs.Common.{◌≡◌, ◌<◌, ◌≤◌, ℕ, length, get_or, None}
use Rattle.hs_base.specs.declared.net.Group.{Group}
use Rattle.hs_base.specs.Dispatch.{group_time}
use Rattle.local_propagate.specs.Windows.{AreWindowsOf, time_of}
use Rattle.dispatcher.specs.State.{times_in}
use Rattle.dispatcher.specs.Index.{Knows, numbers_of}
use Rattle.dispatcher.proofs.groups.set_groups.Given as goal

abbrev pub invariant-loop-i : goal.invariant-loop-i
invariant-loop-i l = record {
  windows : AreWindowsOf l.net l.windows;
  times : (j : ℕ) (g : Group) → j < l.i → time_of l.windows j ≡ group_time (times_in l.times) (get_or l.net.groups j g);
  unset : (j : ℕ) → l.i ≤ j → time_of l.windows j ≡ None;
  size : length l.known.items ≡ l.i;
  knows : (j : ℕ) → j < l.i → Knows l.net l.times j (get_or (numbers_of l.known.items) j 0);
}
