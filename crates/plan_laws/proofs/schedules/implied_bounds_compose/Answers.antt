use Rattle.std.proofs.Common.{arith}
use Rattle.std.proofs.lemmas.Int.{ints}
use Rattle.plan_laws.proofs.schedules.implied_bounds_compose.Goals as goal

pub returns : goal.returns
returns c = λ k p q r w v a b. record { holds = λ t h. omega (arith, ints, a.holds t h, b.holds t h) }
