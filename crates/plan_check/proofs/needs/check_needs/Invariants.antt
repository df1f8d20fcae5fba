use Rattle.std.proofs.Common.{ℕ, ◌<◌, ◌≤◌}
use Rattle.hs_base.specs.Points.{timeline_of}
use Rattle.plan_check.specs.Open.{IsOpenAt, first_looked}
use Rattle.plan_check.proofs.needs.check_needs.Given as goal

abbrev pub invariant-loop-v : goal.invariant-loop-v
invariant-loop-v l = (w p i : ℕ) → w < l.v → first_looked (timeline_of l.index.tokens w) l.new w ≤ p → IsOpenAt l.mission l.claims.set (record { 0 = w }) (timeline_of l.index.tokens w) p i → ⊥
