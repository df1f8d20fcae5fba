use Rattle.std.proofs.Common.{◌≡◌, ◌<◌, ℕ, true}
use Rattle.dispatcher.specs.State.{IsOpen, is_observed}
use Rattle.dispatcher.specs.Marks.{Forced}
use Rattle.dispatcher.proofs.course.Course.late.Given as goal

abbrev pub invariant-loop-x : goal.invariant-loop-x
invariant-loop-x l = (y : ℕ) → y < l.x → is_observed l.self y ≡ true → IsOpen l.self y → Forced l.self y → ⊥
