-- What a simulated run is, by what its devices told.
use Rattle.std.specs.Prelude.{◌≡◌, ℕ, ◌<◌, true, List, [], ◌∷◌, length, Option, Some, None, ⊤}
use Rattle.hs_base.specs.declared.ids.SvId.{SvId}
use Rattle.hs_base.specs.declared.mission.Mission.{Mission}
use Rattle.hs_base.specs.declared.plan.Extension.{Extension}
use Rattle.hs_machine.specs.declared.history.Deed.TheVariants.{Broken}
use Rattle.hs_machine.specs.declared.history.Entry.{Entry}
use Rattle.hs_machine.specs.Machine.{is_over}
use Rattle.hs_machine.specs.Reports.{Polls}
use Rattle.hs_machine.specs.State.{phase_of}
use Rattle.exec_core.specs.Recorded.{Recorded}
use Rattle.plan_check.specs.Planned.{Planned as Plan}
use Rattle.plan_search.specs.declared.unplanned.Unplanned.{Unplanned}
use Rattle.plan_search.specs.declared.unplanned.Unplanned.TheVariants as why
use Rattle.simulation_laws.specs.Attended.{IsAttended}
use Rattle.simulation_laws.specs.Ended.{AreAdded, Heard, RoseAt, takes_all}
use Rattle.simulation_laws.specs.Ending.{EndsWith}
use Rattle.simulation_laws.specs.Planned.{IsOfOnePlan}
use Rattle.simulation_laws.specs.Simulated.{Attempts, IsSimulated, IsUnseeded, all, nodes_ended, none_found}
use Rattle.sim_run.specs.Moves.{IsRun}
use Rattle.sim_run.specs.declared.run.Planned.{Planned}
use Rattle.sim_run.specs.declared.run.Planned.TheVariants.{All, Budget, NoPlan}

-- what each device told by a call
abbrev pub told : {D : Type 0} → (D → Option Polls) → (D → ℕ) → List D → List D → List Heard
told polls faults (x ∷ xs) (y ∷ ys) = record { before = polls x; after = polls y; faults = faults x; faults_after = faults y } ∷ told polls faults xs ys
told polls faults _ _ = []

-- what became of the attempts at plans
abbrev pub attempts_of : Planned → Attempts
attempts_of All = all
attempts_of (NoPlan front) = none_found
attempts_of (Budget front path) = nodes_ended path

-- the extension of a plan that is given
abbrev pub given_of : Option Plan → Option Extension
given_of None = None
given_of (Some plan) = first_of plan.plan.extensions
  where
    first_of : List Extension → Option Extension
    first_of [] = None
    first_of (e ∷ es) = Some e

-- the history is that of a run, left to no chance, in which the devices told this; one by which it broke has failed
pub record IsRunOf (m : Mission) (nodes : ℕ) (given : Option Extension) (heard : List Heard) (h : List Entry) (attempts : Attempts) : Type 0 where
  pub polls : ℕ → Polls
  pub added : AreAdded heard polls
  pub simulated : IsSimulated takes_all m nodes given polls h attempts
  pub unseeded : IsUnseeded m h attempts
  pub broken : (v : SvId) → EndsWith h (Broken v) → RoseAt heard v.0

-- the whole run of a plan of one extension, by what each of the devices told
pub record IsFlight (p : Plan) (heard : List Heard) (r : Recorded) : Type 0 where
  pub mission : r.mission ≡ p.mission
  pub extension : Extension
  pub plan : p.plan.extensions ≡ extension ∷ []
  pub one : IsOfOnePlan r.history extension
  pub is_run : IsRun r
  pub over : is_over (phase_of r.history) ≡ true
  pub polls : ℕ → Polls
  pub added : AreAdded heard polls
  pub attended : (d : ℕ) → d < length r.mission.vars → IsAttended r.mission r.history d (polls d)
  pub broken : (v : SvId) → EndsWith r.history (Broken v) → RoseAt heard v.0

-- the front of a history at which no plan was found is the whole one
abbrev pub HasFront : ℕ → Planned → Type 0
HasFront entries All = ⊤
HasFront entries (NoPlan front) = front ≡ entries
HasFront entries (Budget front path) = front ≡ entries

-- why there is no plan to a history without entries
abbrev pub IsWhy : Unplanned → Planned → Type 0
IsWhy why.NoPlan planned = planned ≡ NoPlan 0
IsWhy (why.Budget path) planned = planned ≡ Budget 0 path
IsWhy why.Memory planned = ⊥
