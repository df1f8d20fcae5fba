-- What a checker keeps of its plan.
use Rattle.std.specs.Prelude.{◌≡◌, List}
use Rattle.std.specs.HashSet as bag
use Rattle.hs_base.specs.declared.mission.Mission.{Mission}
use Rattle.hs_base.specs.declared.plan.Extension.{Extension}
use Rattle.hs_base.specs.Points.{count}
use Rattle.hs_base.specs.Bounds.{bounds_of}
use Rattle.hs_base.specs.Checked.{supports_of, Checked}
use Rattle.plan_index.specs.Contents.{Contents, contents_of}
use Rattle.stn_trail.specs.Held.{Held, points_of, bounds_of as held_bounds}
use Rattle.plan_check.specs.Claimed.{AreClaims}
use Rattle.plan_check.specs.declared.claims.Claim.{Claim}

-- the plan is checked, and the index is the plan's
pub record IsIndexed (m : Mission) (es : List Extension) (index : Contents) : Type 0 where
  pub checked : Checked m es
  pub contents : index ≡ contents_of es

-- the trail has the points and the bounds of the plan
pub record IsTrailOf (m : Mission) (es : List Extension) (trail : Held) : Type 0 where
  pub points : points_of trail ≡ count es
  pub bounds : held_bounds trail ≡ bounds_of m es

-- the plan is checked, and the index, the claims and the trail are those of the plan
pub record IsWalked {S : Type 0} (m : Mission) (es : List Extension) (index : Contents) (set : bag.HashSet Claim S) (trail : Held) : Type 0 where
  pub indexed : IsIndexed m es index
  pub claims : AreClaims (supports_of es) set
  pub kept : IsTrailOf m es trail
