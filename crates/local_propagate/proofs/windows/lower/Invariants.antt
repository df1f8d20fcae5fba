use Rattle.std.proofs.Common.{◌≡◌, length, take}
use Rattle.std.specs.List.{fold}
use Rattle.local_propagate.specs.Narrowed.{lowered}
use Rattle.local_propagate.proofs.windows.lower.Given as goal

abbrev pub invariant-loop-next : goal.invariant-loop-next
invariant-loop-next l = record {
  size : length l.high ≡ length l.initial.high;
  high : l.high ≡ fold (lowered l.times l.at) l.initial.high (take l.next-index l.after);
}
