-- What contracts see of a checked plan.
use Rattle.std.specs.Prelude.{◌≡◌}
use Rattle.hs_base.specs.declared.mission.Mission.{Mission}
use Rattle.hs_base.specs.declared.plan.Plan.{Plan}
use Rattle.hs_base.specs.declared.plan.Extension.{Extension}
use Rattle.hs_base.specs.Checked.{joined}

-- a mission and a plan for it
pub record Planned : Type 0 where
  pub mission : Mission
  pub plan : Plan

-- the plan with one more extension, for the same mission
abbrev pub Joins : Planned → Extension → Planned → Type 0
Joins base e p = (p.mission ≡ base.mission) × (p.plan.extensions ≡ joined base.plan.extensions e)
