-- How a simulated run is told: its status, its log, and the lines of its end behind it.
use Rattle.std.specs.Prelude.{◌≡◌, ℕ, ◌≤◌, List, [], ◌++◌, length, Option, None}
use Rattle.std.specs.List.{AllByRecursion}
use Rattle.hs_base.specs.declared.mission.Mission.{Mission}
use Rattle.hs_base.specs.declared.net.Bound.{Bound}
use Rattle.hs_base.specs.declared.plan.Extension.{Extension}
use Rattle.hs_machine.specs.declared.history.Entry.{Entry}
use Rattle.hs_machine.specs.State.{plan_of}
use Rattle.hs_texts.specs.ClosingText.{budget_line, device_fault_line, done_line, failed_line, no_plan_line}
use Rattle.journal_text.specs.Reasons.{why_text}
use Rattle.log_laws.specs.LogText.{log_text}
use Rattle.run_reasons.specs.Reasons.{IsReason}
use Rattle.simulation_laws.specs.Ended.{Adds, End, Heard, IsEnd, IsSimRun, broken, budget, completed, failed, no_plan, takes_all}
use Rattle.simulation_laws.specs.Simulated.{Attempts}
use Rattle.commands.specs.declared.status.Status.{Status}
use Rattle.commands.specs.declared.status.Status.TheVariants.{Budget, DeviceFault, Done, NoPlan, PlanFailed}

-- the status of a run's end
abbrev pub status_at : End → Status
status_at completed = Done
status_at failed = PlanFailed
status_at broken = DeviceFault
status_at no_plan = NoPlan
status_at (budget path) = Budget

-- behind the head the lines tell that the run is done; or which bounds of its plan force the one by which it failed; or that a device failed; or where no plan was found, or the nodes ended
abbrev pub Closes : Mission → List Entry → List ℕ → End → List ℕ → Type 0
Closes m h head completed text = text ≡ head ++ done_line
Closes m h head failed text = (chain : List Bound) × IsReason m h chain × (text ≡ head ++ why_text m (plan_of h) chain ++ failed_line)
Closes m h head broken text = text ≡ head ++ device_fault_line
Closes m h head no_plan text = text ≡ head ++ no_plan_line (length h)
Closes m h head (budget path) text = text ≡ head ++ budget_line (length h) path

-- the end of a run by what its devices told, with its status and its lines
pub record IsClosed (heard : List Heard) (m : Mission) (h : List Entry) (attempts : Attempts) (head : List ℕ) (status : Status) (text : List ℕ) : Type 0 where
  pub end : End
  pub ends : IsEnd m heard h attempts end
  pub told : status ≡ status_at end
  pub lines : Closes m h head end text

-- a run of the mission with devices that told this: the status is that of its end, and the text is its log with the lines of its end
pub record IsSimTold (nodes : ℕ) (given : Option Extension) (heard : List Heard) (m : Mission) (status : Status) (text : List ℕ) : Type 0 where
  pub history : List Entry
  pub end : End
  pub run : IsSimRun takes_all nodes None given heard m history end
  pub told : status ≡ status_at end
  pub lines : Closes m history (log_text m history) end text

-- a device answered no poll, and its faults didn't fall
pub record IsQuiet (device : Heard) : Type 0 where
  pub adds : Adds device.before device.after []
  pub later : device.faults ≤ device.faults_after

-- so did each
abbrev pub AreQuiet : List Heard → Type 0
AreQuiet heard = AllByRecursion IsQuiet heard
