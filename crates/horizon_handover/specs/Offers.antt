-- What contracts see of an offer, and the dispatch of a plan.
use Rattle.std.specs.Prelude.{◌≡◌, ◌-◌, pos, List, [], ◌∷◌, ◌++◌, length, take, Option, Some, None}
use Rattle.hs_base.specs.declared.plan.Extension.{Extension}
use Rattle.hs_base.specs.declared.net.Net.{Net}
use Rattle.hs_base.specs.Points.{count}
use Rattle.hs_base.specs.Bounds.{bounds_of}
use Rattle.hs_base.specs.Checked.{Checked}
use Rattle.hs_base.specs.Moments.{Moment, moment_in}
use Rattle.hs_machine.specs.State.{executed}
use Rattle.stn_distance.specs.Distances.{Distances, IsDistOf}
use Rattle.dispatcher.specs.State.{State}
use Rattle.exec_laws.specs.Follows.{Follows}
use Rattle.plan_check.specs.Planned.{Planned}

-- a checked plan with its last extension, its reduced network, its distances and a dispatch of it
pub record Offered : Type 0 where
  pub plan : Planned
  pub extension : Option Extension
  pub net : Net
  pub dist : Distances
  pub dispatch : State

-- the list's last extension, where it has one
abbrev pub IsLast : List Extension → Option Extension → Type 0
IsLast es None = es ≡ []
IsLast es (Some e) = es ≡ take (length es - 1) es ++ e ∷ []

-- the moment in which a plan's execution begins: nothing but Z is executed
abbrev pub beginning : Planned → Moment
beginning p = moment_in p.mission p.plan.extensions (executed []) (pos 0)

-- the parts of an offer belong together, and its dispatch stands at 0
pub record IsReady (o : Offered) : Type 0 where
  pub checked : Checked o.plan.mission o.plan.plan.extensions
  pub last : IsLast o.plan.plan.extensions o.extension
  pub net : o.net ≡ o.dispatch.net
  pub dist : IsDistOf (count o.plan.plan.extensions) (bounds_of o.plan.mission o.plan.plan.extensions) o.dist
  pub dispatch : Follows (beginning o.plan) o.dispatch
