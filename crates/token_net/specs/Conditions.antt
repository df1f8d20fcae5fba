-- What the bounds of a plan ask of it.
use Rattle.std.specs.Prelude.{◌<◌, List}
use Rattle.std.specs.List.{AllByRecursion}
use Rattle.hs_base.specs.declared.mission.Mission.{Mission}
use Rattle.hs_base.specs.declared.plan.Time.{Time}
use Rattle.hs_base.specs.declared.plan.Extension.{Extension}
use Rattle.hs_base.specs.Ranges.{whole, InRange}
use Rattle.hs_base.specs.Points.{count, tokens_of}
use Rattle.hs_base.specs.Missions.{IsKindOf}
use Rattle.hs_base.specs.Checked.{fixed_of}

-- the values of tokens and the fixed points are there, and `since` and the fixed times are times
pub record IsWithin (m : Mission) (es : List Extension) : Type 0 where
  pub kinds : AllByRecursion (IsKindOf m.vars) (tokens_of es)
  pub points : AllByRecursion (λ (t : Time). t.point.0 < count es) (fixed_of es)
  pub times : AllByRecursion (λ (t : Time). InRange whole t.at) (fixed_of es)
  pub since : AllByRecursion (λ (e : Extension). InRange whole e.since) es
