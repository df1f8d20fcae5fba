-- How a simulated run ends, by its history, by its attempts at plans, and by what its devices told.
use Rattle.std.specs.Prelude.{◌≡◌, ◌⊎◌, ℕ, ◌<◌, List, ◌++◌, length, slice_get, Option, Some, None, ⊤}
use Rattle.hs_base.specs.declared.ids.SvId.{SvId}
use Rattle.hs_base.specs.declared.mission.Mission.{Mission}
use Rattle.hs_base.specs.declared.net.Bound.{Bound}
use Rattle.hs_base.specs.declared.plan.Extension.{Extension}
use Rattle.hs_machine.specs.declared.history.Deed.TheVariants.{Late, Early, Broken}
use Rattle.hs_machine.specs.declared.history.Entry.{Entry}
use Rattle.hs_machine.specs.Reports.{Polls}
use Rattle.hs_machine.specs.State.{plan_of}
use Rattle.hs_machine.specs.Views.{snapshot_of}
use Rattle.hs_port.specs.Causes.{Rose}
use Rattle.search_tree.specs.Begun.{begun_of}
use Rattle.search_tree.specs.Search.{FindsWhere}
use Rattle.search_tree.specs.Tree.{plan}
use Rattle.simulation_laws.specs.Ending.{EndsWith}
use Rattle.simulation_laws.specs.Simulated.{Attempts, IsCompleted, IsSimulated, IsUnseeded, all, nodes_ended, none_found}

-- what a device told by a call: its answered polls, where it tells them, and its faults, before the call and after it
pub record Heard : Type 0 where
  pub before : Option Polls
  pub after : Option Polls
  pub faults : ℕ
  pub faults_after : ℕ

-- a list that is told grew by these polls
abbrev pub Adds : Option Polls → Option Polls → Polls → Type 0
Adds None after polls = ⊤
Adds (Some old) after polls = after ≡ Some (old ++ polls)

-- each device's list did
abbrev pub AreAdded : List Heard → (ℕ → Polls) → Type 0
AreAdded heard polls = (d : ℕ) (x : Heard) → slice_get heard d ≡ Some x → Adds x.before x.after (polls d)

-- the faults of that device rose
pub record RoseAt (heard : List Heard) (d : ℕ) : Type 0 where
  pub device : Heard
  pub is : slice_get heard d ≡ Some device
  pub rose : Rose device.faults device.faults_after

-- the ends of a run
pub data End : Type 0 where
  completed : End
  failed : End
  broken : End
  no_plan : End
  budget : List ℕ → End

-- a report came outside its window, or none came in it
abbrev pub IsFailedBy : List Entry → Bound → Type 0
IsFailedBy h b = EndsWith h (Late b) ⊎ EndsWith h (Early b)

-- a device failed, and has counted it
pub record IsBrokenBy (h : List Entry) (d : SvId) (heard : List Heard) : Type 0 where
  pub ends : EndsWith h (Broken d)
  pub rose : RoseAt heard d.0

-- the run ended so
abbrev pub IsEnd : Mission → List Heard → List Entry → Attempts → End → Type 0
IsEnd m heard h attempts completed = (attempts ≡ all) × IsCompleted m h
IsEnd m heard h attempts failed = (attempts ≡ all) × ((b : Bound) × IsFailedBy h b)
IsEnd m heard h attempts broken = (attempts ≡ all) × ((d : SvId) × IsBrokenBy h d heard)
IsEnd m heard h attempts no_plan = attempts ≡ none_found
IsEnd m heard h attempts (budget path) = attempts ≡ nodes_ended path

-- a simulated run with devices that told this, and its end; one without a seed is left to no chance
pub record IsSimRun (takes : Mission → List Extension → Type 0) (nodes : ℕ) (seed : Option ℕ) (given : Option Extension) (heard : List Heard) (m : Mission) (h : List Entry) (end : End) : Type 0 where
  pub polls : ℕ → Polls
  pub added : AreAdded heard polls
  pub attempts : Attempts
  pub simulated : IsSimulated takes m nodes given polls h attempts
  pub unseeded : seed ≡ None → IsUnseeded m h attempts
  pub ends : IsEnd m heard h attempts end

-- a search that takes any plan
abbrev pub takes_all : Mission → List Extension → Type 0
takes_all m es = ⊤

-- wherever in the run a further plan is wanted, the search finds one
abbrev pub FindsEachPlan : (Mission → List Extension → Type 0) → Mission → ℕ → List Entry → Type 0
FindsEachPlan takes m nodes h =
    (front later : List Entry) → h ≡ front ++ later → plan_of front ≡ plan_of h → length (plan_of front) < length m.horizons
    → (e : Extension) × FindsWhere takes m (begun_of (snapshot_of m front)) nodes (plan e)
