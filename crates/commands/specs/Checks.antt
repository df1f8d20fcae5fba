-- What `check` makes of an input.
use Rattle.std.specs.Prelude.{◌≡◌, ◌≢◌, ◌⊎◌, ℕ, ◌+◌, List, length, take, slice_get, Some}
use Rattle.hs_base.specs.declared.mission.Mission.{Mission}
use Rattle.hs_base.specs.declared.plan.Extension.{Extension}
use Rattle.hs_base.specs.declared.fault.Fault.{Fault}
use Rattle.hs_base.specs.declared.fault.Fault.TheVariants.{Memory as NoMemoryLeft}
use Rattle.hs_base.specs.Checked.{Checked}
use Rattle.hs_texts.specs.ClosingText.{checked_line}
use Rattle.hs_base.specs.Faults.{IsFault}
use Rattle.hs_texts.specs.RefusalText.{fault_text}
use Rattle.commands.specs.Inputs.{IsGiven, IsGivenRefusal, IsRefused}
use Rattle.commands.specs.declared.status.Status.{Status}
use Rattle.commands.specs.declared.status.Status.TheVariants.{Done, Refused, PlanRefused}

-- the extension at that place, counted from 0, is the first that breaks a rule, and this is its first fault
pub record IsFlaw (m : Mission) (es : List Extension) (place : ℕ) (fault : Fault) : Type 0 where
  pub extension : Extension
  pub is : slice_get es place ≡ Some extension
  pub sound : Checked m (take place es)
  pub first : IsFault m (take place es) extension fault

-- a plan's first flaw, and its lines
pub record IsFaulty (m : Mission) (es : List Extension) (text : List ℕ) : Type 0 where
  pub place : ℕ
  pub fault : Fault
  pub flaw : IsFlaw m es place fault
  pub some : fault ≢ NoMemoryLeft
  pub lines : text ≡ fault_text m (take (place + 1) es) (place + 1) fault

-- every extension keeps the rules
pub record IsSound (m : Mission) (es : List Extension) (text : List ℕ) : Type 0 where
  pub checked : Checked m es
  pub line : text ≡ checked_line (length es)

-- what is said of a plan for a mission
abbrev pub Judges : Mission → List Extension → Status → List ℕ → Type 0
Judges m es Done text = IsSound m es text
Judges m es PlanRefused text = IsFaulty m es text
Judges m es _ text = ⊥

-- the bytes are an accepted mission with a plan, of which this is said
pub record IsJudged (bytes : List ℕ) (status : Status) (text : List ℕ) : Type 0 where
  pub mission : Mission
  pub plan : List Extension
  pub given : IsGiven bytes mission plan
  pub judges : Judges mission plan status text

abbrev pub Checks : List ℕ → Status → List ℕ → Type 0
Checks bytes status text = IsJudged bytes status text ⊎ ((status ≡ Refused) × IsRefused (IsGivenRefusal bytes) text)
