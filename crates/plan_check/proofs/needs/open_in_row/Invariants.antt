use Rattle.std.proofs.Common.{ℕ, ◌<◌, ◌≤◌, map}
use Rattle.plan_index.specs.Lines.{kind_in}
use Rattle.plan_check.specs.Open.{IsOpenAt}
use Rattle.plan_check.proofs.needs.open_in_row.Given as goal

abbrev pub invariant-loop-place : goal.invariant-loop-place
invariant-loop-place l = (p i : ℕ) → l.first ≤ p → p < l.place → IsOpenAt l.mission l.claims.set l.sv (map (kind_in l.sv.0) l.row) p i → ⊥
