-- The bound that a failed run names.
use Rattle.std.specs.Prelude.{◌≢◌, List}
use Rattle.hs_base.specs.declared.net.Bound.{Bound}
use Rattle.hs_base.specs.declared.mission.Mission.{Mission}
use Rattle.hs_base.specs.declared.plan.Extension.{Extension}
use Rattle.hs_base.specs.Bounds.{bounds_of}
use Rattle.hs_base.specs.Points.{count}
use Rattle.hs_base.specs.Schedule.{Tight}
use Rattle.plan_laws.specs.Fit.{IsFit}

-- a bound between two points of a plan, within the range of bounds, which is the distance of its points
pub record IsForcedBy (m : Mission) (es : List Extension) (b : Bound) : Type 0 where
  pub apart : b.from ≢ b.to
  pub fit : IsFit (count es) b
  pub tight : Tight (bounds_of m es) b.from.0 b.to.0 b.most
