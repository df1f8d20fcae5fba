use Rattle.std.proofs.Common.{ℕ, ◌<◌, ◌++◌}
use Rattle.plan_check.specs.Lines.{size_of}
use Rattle.plan_check.proofs.tokens.first_empty.Given as goal

abbrev pub invariant-loop-v : goal.invariant-loop-v
invariant-loop-v l = (w : ℕ) → w < l.v → 0 < size_of (l.index.tokens ++ l.new) w
