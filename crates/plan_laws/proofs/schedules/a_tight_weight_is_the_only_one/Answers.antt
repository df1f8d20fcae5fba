use Rattle.std.proofs.Common.{arith}
use Rattle.std.proofs.lemmas.Int.{ints}
use Rattle.plan_laws.proofs.schedules.a_tight_weight_is_the_only_one.Goals as goal

pub returns : goal.returns
returns c = record {
  holds = λ k s p q w a h. a.implied.holds s h;
  one = λ k p q w v a b. omega (arith, ints, a.least v b.implied, b.least w a.implied);
}
