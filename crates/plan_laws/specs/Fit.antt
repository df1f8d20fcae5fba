-- What distances ask of bounds.
use Rattle.std.specs.Prelude.{ℕ, ◌<◌, neg_ℤ, ◌≤ℤ◌}
use Rattle.hs_base.specs.declared.limits.TheConstants.{LAST}
use Rattle.hs_base.specs.declared.net.Bound.{Bound}

-- both points are among the first c, and the weight is within LAST
pub record IsFit (c : ℕ) (b : Bound) : Type 0 where
  pub from : b.from.0 < c
  pub to : b.to.0 < c
  pub least : neg_ℤ LAST ≤ℤ b.most
  pub most : b.most ≤ℤ LAST
