use Rattle.std.proofs.Common.{arith}
use Rattle.std.proofs.lemmas.Int.{ints}
use Rattle.std.specs.Prelude.{◌+ℤ◌}
use Rattle.plan_laws.proofs.schedules.tight_weights_keep_the_triangle.Goals as goal

pub returns : goal.returns
returns c = λ k p q r a b d tpq tqr tpr. tpr.least (a +ℤ b) (record { holds = λ t h. omega (arith, ints, tpq.implied.holds t h, tqr.implied.holds t h) })
