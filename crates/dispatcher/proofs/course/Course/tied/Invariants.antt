use Rattle.std.proofs.Common.{◌<◌, ℕ}
use Rattle.hs_base.specs.Moments.{IsTied}
use Rattle.dispatcher.specs.State.{moment}
use Rattle.dispatcher.proofs.course.Course.tied.Given as goal

abbrev pub invariant-loop-y : goal.invariant-loop-y
invariant-loop-y l = (z : ℕ) → z < l.y → IsTied (moment l.self) l.p.0 z → ⊥
