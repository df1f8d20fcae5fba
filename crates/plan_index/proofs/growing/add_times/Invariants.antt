use Rattle.std.proofs.Common.{◌≡◌, ◌+◌, ◌++◌, take, vec_len, vec_capacity}
use Rattle.plan_index.specs.Named.{AreFlags}
use Rattle.plan_index.proofs.growing.add_times.Given as goal

abbrev pub invariant-loop-time : goal.invariant-loop-time
invariant-loop-time l = record {
  len : vec_len l.fixed ≡ vec_len l.fn.fixed + l.time-index;
  capacity : vec_capacity l.fixed ≡ vec_capacity l.fn.fixed;
  many : vec_len l.flags ≡ vec_len l.fn.flags;
  fixed : l.fixed.items ≡ l.fn.fixed.items ++ take l.time-index l.times;
  flags : AreFlags l.fixed.items l.flags.items;
}
