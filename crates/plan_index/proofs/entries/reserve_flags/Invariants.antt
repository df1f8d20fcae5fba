use Rattle.std.proofs.Common.{◌≤◌, ◌<◌, ℕ, get_or, vec_len}
use Rattle.hs_base.specs.declared.plan.Time.{Time}
use Rattle.plan_index.proofs.entries.reserve_flags.Given as goal

abbrev pub invariant-loop-time : goal.invariant-loop-time
invariant-loop-time l = record {
  least : vec_len l.flags ≤ l.many;
  below : (j : ℕ) (d : Time) → j < l.time-index → (get_or l.times j d).point.0 < l.many;
}
