-- The bounds that hold points after point 0.
use Rattle.std.specs.Prelude.{ℕ, ◌<◌, pos, List, Contains}
use Rattle.hs_base.specs.declared.limits.TheConstants.{LAST}
use Rattle.hs_base.specs.declared.net.Bound.{Bound}
use Rattle.hs_base.specs.Schedule.{bound}

-- each of the first n points has the bounds by which it stands in 0 to LAST after point 0
pub record HasRanges (n : ℕ) (bounds : List Bound) : Type 0 where
  pub each : (p : ℕ) → 0 < p → p < n → Contains bounds (bound p 0 (pos 0)) × Contains bounds (bound 0 p LAST)
