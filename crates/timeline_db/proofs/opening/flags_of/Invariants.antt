use Rattle.std.proofs.Common.{◌≡◌, take, length}
use Rattle.plan_index.specs.Named.{AreFlags}
use Rattle.timeline_db.proofs.opening.flags_of.Given as goal

abbrev pub invariant-loop-time : goal.invariant-loop-time
invariant-loop-time l = record {
  flags : AreFlags (take l.time-index l.times) l.flags.items;
  size : length l.flags.items ≡ l.points;
}
