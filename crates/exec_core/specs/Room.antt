-- Room in the history for every tick up to the newest horizon, every open point, and a failure.
use Rattle.std.specs.Prelude.{◌≡◌, ℕ, ◌+◌, ◌-◌, ℤ, pos, ◌+ℤ◌, ◌-ℤ◌, ◌≤ℤ◌, List, length, slice_get, Some}
use Rattle.std.specs.Option.{is_none}
use Rattle.std.specs.List.{count_by}
use Rattle.hs_base.specs.declared.mission.Horizon.{Horizon}
use Rattle.hs_base.specs.declared.mission.Mission.{Mission}
use Rattle.hs_machine.specs.declared.history.Entry.{Entry}
use Rattle.hs_machine.specs.State.{plan_of}
use Rattle.dispatcher.specs.State.{State}

-- the tick of the newest plan's horizon
pub record IsHorizonTick (m : Mission) (h : List Entry) (until : ℤ) : Type 0 where
  pub horizon : Horizon
  pub is : slice_get m.horizons (length (plan_of h) - 1) ≡ Some horizon
  pub tick : until ≡ horizon.tick

pub record HasRoom (m : Mission) (h : List Entry) (s : State) (room : ℕ) : Type 0 where
  pub until : ℤ
  pub is_until : IsHorizonTick m h until
  pub enough : (pos (length h + count_by is_none s.times + 1) +ℤ (until -ℤ s.tick)) ≤ℤ pos room
