-- A simulated run: a history with all that it owes to the search, to the devices and to the horizons, and its end.
use Rattle.std.specs.Prelude.{◌≡◌, ◌⊎◌, ℕ, ◌<◌, true, false, List, [], length, Option}
use Rattle.hs_base.specs.declared.mission.Mission.{Mission}
use Rattle.hs_base.specs.declared.plan.Extension.{Extension}
use Rattle.hs_base.specs.Points.{hor}
use Rattle.hs_base.specs.Walks.{AreDifferent}
use Rattle.hs_machine.specs.declared.history.Deed.TheVariants.{Fire}
use Rattle.hs_machine.specs.declared.history.Entry.{Entry}
use Rattle.hs_machine.specs.Eager.{Eager}
use Rattle.hs_machine.specs.Reports.{Polls}
use Rattle.hs_machine.specs.Run.{Run}
use Rattle.hs_machine.specs.State.{has_failed, plan_of}
use Rattle.hs_machine.specs.Views.{snapshot_of}
use Rattle.search_tree.specs.Begun.{begun_of}
use Rattle.search_tree.specs.Search.{FindsWhere}
use Rattle.search_tree.specs.Tree.{Found, no_plan, budget}
use Rattle.simulation_laws.specs.Attended.{IsAttended}
use Rattle.simulation_laws.specs.Ending.{EndsWith}
use Rattle.simulation_laws.specs.Planned.{AreFound, AreInTime, AreOnTime, BeginsPlanned, IsLastTick, TakesGiven, stale_at}

-- what became of the attempts at plans: none is left, or why the last one gave none
pub data Attempts : Type 0 where
  all : Attempts
  none_found : Attempts
  nodes_ended : List ℕ → Attempts

-- the last horizon's point was fired last
pub record IsCompleted (m : Mission) (h : List Entry) : Type 0 where
  pub fires : EndsWith h (Fire (record { 0 = hor (plan_of h) (length (plan_of h)) }))
  pub all : length (plan_of h) ≡ length m.horizons

-- the search at the history's end found this in place of a plan
pub record IsUnfound (takes : Mission → List Extension → Type 0) (m : Mission) (nodes : ℕ) (h : List Entry) (found : Found Extension) : Type 0 where
  pub goes_on : has_failed h ≡ false
  pub more : length (plan_of h) < length m.horizons
  pub finds : FindsWhere takes m (begun_of (snapshot_of m h)) nodes found

-- with no attempt left the run has failed or is completed; otherwise it stops where the last attempt was made
abbrev pub EndsAs : (Mission → List Extension → Type 0) → Mission → ℕ → List Entry → Attempts → Type 0
EndsAs takes m nodes h all = (has_failed h ≡ true) ⊎ IsCompleted m h
EndsAs takes m nodes h none_found = IsUnfound takes m nodes h no_plan
EndsAs takes m nodes h (nodes_ended path) = IsUnfound takes m nodes h (budget path)

-- where a plan is missing, it is at the beginning or at the last tick before a horizon
abbrev pub EndsOnTime : Mission → List Entry → Attempts → Type 0
EndsOnTime m h attempts = (attempts ≡ all) ⊎ ((h ≡ []) ⊎ IsLastTick m h)

-- a run whose points and plans are left to no chance: each comes as soon as it may, and no plan is stale
pub record IsUnseeded (m : Mission) (h : List Entry) (attempts : Attempts) : Type 0 where
  pub eager : Eager m h
  pub on_time : AreOnTime m h
  pub fresh : stale_at h ≡ []
  pub ends : EndsOnTime m h attempts

-- a simulated run, where polls are the answers of its devices
pub record IsSimulated (takes : Mission → List Extension → Type 0) (m : Mission) (nodes : ℕ) (given : Option Extension) (polls : ℕ → Polls) (h : List Entry) (attempts : Attempts) : Type 0 where
  pub run : Run m h
  pub given_first : TakesGiven given h
  pub found : AreFound takes m nodes given h
  pub attended : (d : ℕ) → d < length m.vars → IsAttended m h d (polls d)
  pub planned : BeginsPlanned h
  pub in_time : AreInTime m h
  pub stale_once : AreDifferent (stale_at h)
  pub ends : EndsAs takes m nodes h attempts
