-- What contracts see of a plan with its distances and its reduced network.
use Rattle.hs_base.specs.declared.net.Net.{Net}
use Rattle.hs_base.specs.Points.{count}
use Rattle.hs_base.specs.Bounds.{bounds_of}
use Rattle.hs_base.specs.Reduced.{IsReducedOf}
use Rattle.hs_base.specs.Checked.{Checked}
use Rattle.stn_distance.specs.Distances.{Distances, IsDistOf}
use Rattle.plan_check.specs.Planned.{Planned}

pub record Reform : Type 0 where
  pub plan : Planned
  pub dist : Distances
  pub net : Net

-- the plan is checked, and the others are of its points and bounds
pub record IsReformed (r : Reform) : Type 0 where
  pub checked : Checked r.plan.mission r.plan.plan.extensions
  pub dist : IsDistOf (count r.plan.plan.extensions) (bounds_of r.plan.mission r.plan.plan.extensions) r.dist
  pub net : IsReducedOf (count r.plan.plan.extensions) (bounds_of r.plan.mission r.plan.plan.extensions) r.net
