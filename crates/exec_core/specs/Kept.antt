-- What an executive keeps.
use Rattle.std.specs.Prelude.{◌≡◌, ◌≢◌, ℕ, ◌<◌, false, List, [], length, vec_capacity, Option, Some, None}
use Rattle.hs_base.specs.declared.mission.Mission.{Mission}
use Rattle.hs_machine.specs.declared.history.Entry.{Entry}
use Rattle.hs_base.specs.Points.{hor}
use Rattle.hs_machine.specs.State.{now_of, plan_of, executed, moment_of, has_failed}
use Rattle.hs_machine.specs.Run.{Run}
use Rattle.exec_laws.specs.Follows.{Follows}
use Rattle.exec_core.specs.Room.{HasRoom}
use Rattle.exec_core.specs.declared.flight.Flight.{Flight}
use Rattle.exec_core.specs.declared.exec.Exec.TheInside.{Inside}

-- the newest plan is in execution
pub record IsFlying (m : Mission) (h : List Entry) (f : Flight) : Type 0 where
  pub mission : f.plan.mission ≡ m
  pub plan : f.plan.plan.extensions ≡ plan_of h
  pub some : plan_of h ≢ []
  pub follows : Follows (moment_of m h) f.dispatch
  pub mark : f.mark.0 ≡ hor (plan_of h) (length (plan_of h))

-- before the first handover no time goes by
pub record IsGrounded (h : List Entry) : Type 0 where
  pub plan : plan_of h ≡ []
  pub now_is : now_of h ≡ 0
  pub times : executed h ≡ executed []

abbrev pub IsAt : Mission → List Entry → Option Flight → Type 0
IsAt m h None = IsGrounded h
IsAt m h (Some f) = IsFlying m h f

abbrev pub HasRoomFor : Mission → List Entry → Option Flight → ℕ → Type 0
HasRoomFor m h None room = length h < room
HasRoomFor m h (Some f) room = HasRoom m h f.dispatch room

pub record IsKept (d : Inside) : Type 0 where
  pub run : Run d.mission d.history.items
  pub failed : d.failed ≡ has_failed d.history.items
  pub at : IsAt d.mission d.history.items d.live
  pub room : d.failed ≡ false → HasRoomFor d.mission d.history.items d.live (vec_capacity d.history)
