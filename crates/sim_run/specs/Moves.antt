-- How a run goes on, and how it stops.
use Rattle.std.specs.Prelude.{◌≡◌, ℕ, ◌<◌, ◌≤◌, true, List, ◌++◌, None}
use Rattle.std.specs.List.{AllByRecursion}
use Rattle.hs_base.specs.declared.ids.SvId.{SvId}
use Rattle.hs_base.specs.declared.mission.Mission.{Mission}
use Rattle.hs_machine.specs.declared.history.Deed.TheVariants.{Broken}
use Rattle.hs_machine.specs.declared.history.Entry.{Entry}
use Rattle.hs_machine.specs.declared.history.Phase.TheVariants.{Running}
use Rattle.hs_machine.specs.Eager.{Eager}
use Rattle.hs_machine.specs.Machine.{is_over}
use Rattle.hs_machine.specs.Reports.{Polls}
use Rattle.hs_machine.specs.Run.{Run}
use Rattle.hs_machine.specs.State.{phase_of}
use Rattle.exec_core.specs.Recorded.{Recorded}
use Rattle.flight_laws.specs.Flights.{steps_left}
use Rattle.simulation_laws.specs.Ending.{EndsWith}
use Rattle.simulation_laws.specs.Planned.{offered}
use Rattle.simulation_laws.specs.Standing.{Standing, Stands}
use Rattle.sim_run.specs.Told.{HasRisen, Known}
use Rattle.sim_run.specs.Manned.{AreServed}

-- an eager run
pub record IsRun (r : Recorded) : Type 0 where
  pub run : Run r.mission r.history
  pub eager : Eager r.mission r.history

-- one in which a plan is in execution
pub record IsGoing (r : Recorded) : Type 0 where
  pub is_run : IsRun r
  pub running : phase_of r.history ≡ Running

-- the same mission's run, longer by entries that offer no plan, with no more steps left
pub record GoesOn (old new : Recorded) : Type 0 where
  pub mission : new.mission ≡ old.mission
  pub more : List Entry
  pub is : new.history ≡ old.history ++ more
  pub no_plan : AllByRecursion (λ (e : Entry). offered e.deed ≡ None) more
  pub left : steps_left new.history ≤ steps_left old.history

-- and with fewer
pub record GoesFurther (old new : Recorded) : Type 0 where
  pub goes_on : GoesOn old new
  pub fewer : steps_left new.history < steps_left old.history

-- the run is over, and its devices were served; the device that it breaks by has failed
pub record IsOver (before now : List Known) (r : Recorded) : Type 0 where
  pub is_run : IsRun r
  pub over : is_over (phase_of r.history) ≡ true
  pub served : AreServed r.mission r.history before now
  pub broken : (v : SvId) → EndsWith r.history (Broken v) → HasRisen before now v.0

-- each device but w stands as it stood
abbrev pub KeepsOthers : Mission → List Entry → List Entry → ℕ → Type 0
KeepsOthers m h h2 w = (d : ℕ) (polls : Polls) (k : ℕ) (st : Standing) → (d ≡ w → ⊥) → Stands m h d polls k st → Stands m h2 d polls k st
