-- Which points may be fixed, by what is to know of the plan.
use Rattle.std.specs.Prelude.{◌≡◌, ℕ, ◌<◌, ◌≤ℤ◌, false, ℤ, pos, length}
use Rattle.hs_base.specs.declared.plan.Time.{Time}
use Rattle.plan_index.specs.Contents.{Contents}
use Rattle.plan_index.specs.Named.{has_time}

-- the point is one behind the last, is not fixed, and its time is a time up to `since`
pub record MayFix (c : Contents) (last : ℕ) (since : ℤ) (t : Time) : Type 0 where
  pub behind : last < t.point.0
  pub below : t.point.0 < length c.points
  pub new : has_time c.fixed t.point.0 ≡ false
  pub low : pos 0 ≤ℤ t.at
  pub high : t.at ≤ℤ since
