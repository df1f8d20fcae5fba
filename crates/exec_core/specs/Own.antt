-- The points that may be tried: no device tells them.
use Rattle.std.specs.Prelude.{◌≡◌, ℕ, ◌<◌, false, List, None}
use Rattle.hs_base.specs.declared.mission.Mission.{Mission}
use Rattle.hs_machine.specs.declared.history.Entry.{Entry}
use Rattle.hs_machine.specs.State.{count_at, executed, watched}

-- the point is one of the newest plan, and is neither executed nor observed
pub record IsOwn (m : Mission) (h : List Entry) (x : ℕ) : Type 0 where
  pub below : x < count_at h
  pub waits : executed h x ≡ None
  pub own : watched m h x ≡ false
