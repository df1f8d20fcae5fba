-- What can be done in a running state.
use Rattle.std.specs.Prelude.{◌⊎◌, ℕ, List}
use Rattle.hs_base.specs.declared.mission.Mission.{Mission}
use Rattle.hs_machine.specs.declared.history.Entry.{Entry}
use Rattle.hs_machine.specs.Machine.{Replies, tick, fire, report, done}

-- a tick, some fire or some report is answered with Done
pub record GoesOn (m : Mission) (h : List Entry) : Type 0 where
  pub done : Replies m h tick done ⊎ (((x : ℕ) × Replies m h (fire x) done) ⊎ ((x : ℕ) × Replies m h (report x) done))
