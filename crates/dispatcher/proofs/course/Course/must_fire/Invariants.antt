use Rattle.std.proofs.Common.{◌<◌, ℕ}
use Rattle.hs_base.specs.Moments.{MustFire}
use Rattle.dispatcher.specs.State.{moment}
use Rattle.dispatcher.proofs.course.Course.must_fire.Given as goal

abbrev pub invariant-loop-x : goal.invariant-loop-x
invariant-loop-x l = (y : ℕ) → y < l.x → MustFire (moment l.self) y → ⊥
