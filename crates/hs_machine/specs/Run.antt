-- Whole histories of the schedule machine.
use Rattle.std.specs.Prelude.{Some, List, []}
use Rattle.hs_base.specs.declared.mission.Mission.{Mission}
use Rattle.hs_machine.specs.Types.{Entry}
use Rattle.hs_base.specs.Walks.{EachAfter}
use Rattle.hs_base.specs.Missions.{IsMission}
use Rattle.hs_machine.specs.Machine.{Event, Reply, Answers}

-- e is an entry that the machine may add to h
pub record MayAdd (m : Mission) (h : List Entry) (e : Entry) : Type 0 where
  pub event : Event
  pub reply : Reply
  pub answers : Answers m h e.by event reply (Some e)

-- each entry is one that the machine may add to those before it
pub record Run (m : Mission) (h : List Entry) : Type 0 where
  pub mission : IsMission m
  pub entries : EachAfter (MayAdd m) [] h
