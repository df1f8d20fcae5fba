-- When a search may begin.
use Rattle.std.specs.List.{AllByRecursion}
use Rattle.std.specs.Prelude.{Some, [], false, length, pos, slice_get, ℕ, ◌<◌, ◌≡◌, ◌≤ℤ◌}
use Rattle.hs_base.specs.Bounds.{IsScheduleOf, is_fixed}
use Rattle.hs_base.specs.Checked.{Checked, KeepsFixed}
use Rattle.hs_base.specs.Points.{count}
use Rattle.hs_base.specs.Schedule.{Schedule}
use Rattle.hs_base.specs.declared.mission.Horizon.{Horizon}
use Rattle.hs_base.specs.declared.mission.Mission.{Mission}
use Rattle.hs_base.specs.declared.plan.Time.{Time}
use Rattle.search_tree.specs.Begun.{Begun, pending, stub}

-- a schedule of the plan agrees with what was executed since, and gives `since` or more to the points that aren't
pub record IsOngoing (m : Mission) (b : Begun) (t : Schedule) : Type 0 where
  pub meets : IsScheduleOf m b.base t
  pub agrees : AllByRecursion (λ (f : Time). t f.point.0 ≡ f.at) b.fixed
  pub later : (x : ℕ) → 0 < x → x < count b.base → is_fixed (stub b) x ≡ false → b.since ≤ℤ t x

-- the plan is checked and may go on as it was executed, and there is a next horizon
pub record MayBegin (m : Mission) (b : Begun) : Type 0 where
  pub checked : Checked m b.base
  pub schedule : Schedule
  pub ongoing : IsOngoing m b schedule
  pub fixed : KeepsFixed b.base (pending b)
  pub horizon : Horizon
  pub is_horizon : slice_get m.horizons (length b.base) ≡ Some horizon
  pub in_time : b.since ≤ℤ horizon.tick
  pub at_first : b.base ≡ [] → b.since ≡ pos 0
