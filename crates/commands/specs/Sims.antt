-- What `sim` makes of an input.
use Rattle.std.specs.Prelude.{◌≡◌, ◌≢◌, ◌⊎◌, ℕ, List, [], ◌∷◌, length, codes, Some, None}
use Rattle.hs_base.specs.declared.mission.Mission.{Mission}
use Rattle.hs_base.specs.declared.plan.Extension.{Extension}
use Rattle.hs_base.specs.Checked.{Checked}
use Rattle.hs_texts.specs.declared.refusal.Refusal.{Refusal}
use Rattle.hs_texts.specs.RefusalText.{not_one_text}
use Rattle.simulation_laws.specs.Ended.{Heard}
use Rattle.commands.specs.Inputs.{IsInFront, IsFrontRefusalOf, EndsAt, IsGiven, IsBehindRefusal, IsRefused}
use Rattle.commands.specs.Checks.{IsFaulty}
use Rattle.commands.specs.Runs.{IsSimTold}
use Rattle.commands.specs.declared.status.Status.{Status}
use Rattle.commands.specs.declared.status.Status.TheVariants.{Refused, PlanRefused}

-- the line of what isn't built yet: a run of several horizons
abbrev pub unbuilt_line : List ℕ
unbuilt_line = codes "refused 0\n"

-- a mission of one horizon
abbrev pub HasOneHorizon : Mission → Type 0
HasOneHorizon m = length m.horizons ≡ 1

-- a run of several horizons is refused
pub record IsUnbuilt (m : Mission) (status : Status) (text : List ℕ) : Type 0 where
  pub several : length m.horizons ≢ 1
  pub refused : status ≡ Refused
  pub line : text ≡ unbuilt_line

-- the plan is one checked extension, by which the mission was run
pub record IsRunOfPlan (nodes : ℕ) (heard : List Heard) (m : Mission) (es : List Extension) (status : Status) (text : List ℕ) : Type 0 where
  pub one_horizon : HasOneHorizon m
  pub extension : Extension
  pub one : es ≡ extension ∷ []
  pub checked : Checked m es
  pub told : IsSimTold nodes (Some extension) heard m status text

-- the plan hasn't one extension
pub record IsNotOne (es : List Extension) (text : List ℕ) : Type 0 where
  pub other : length es ≢ 1
  pub line : text ≡ not_one_text (length es)

-- the plan for a mission of one horizon is refused
pub record IsPlanRefused (m : Mission) (es : List Extension) (status : Status) (text : List ℕ) : Type 0 where
  pub one_horizon : HasOneHorizon m
  pub refused : status ≡ PlanRefused
  pub cause : IsNotOne es text ⊎ ((length es ≡ 1) × IsFaulty m es text)

-- what comes of a plan for a mission: a run, or a refusal
abbrev pub Runs : ℕ → List Heard → Mission → List Extension → Status → List ℕ → Type 0
Runs nodes heard m es status text = (IsRunOfPlan nodes heard m es status text ⊎ IsPlanRefused m es status text) ⊎ IsUnbuilt m status text

-- the bytes are an accepted mission with a plan, of which this comes
pub record IsRun (nodes : ℕ) (heard : List Heard) (bytes : List ℕ) (status : Status) (text : List ℕ) : Type 0 where
  pub mission : Mission
  pub plan : List Extension
  pub given : IsGiven bytes mission plan
  pub runs : Runs nodes heard mission plan status text

-- what comes of a mission whose plans are searched for: a run, or a refusal
abbrev pub RunsAlone : ℕ → List Heard → Mission → Status → List ℕ → Type 0
RunsAlone nodes heard m status text = (HasOneHorizon m × IsSimTold nodes None heard m status text) ⊎ IsUnbuilt m status text

-- nothing stands behind the mission, of which this comes
pub record IsAlone (nodes : ℕ) (heard : List Heard) (bytes : List ℕ) (status : Status) (text : List ℕ) : Type 0 where
  pub mission : Mission
  pub used : ℕ
  pub front : IsInFront bytes mission used
  pub ends : EndsAt bytes used
  pub runs : RunsAlone nodes heard mission status text

-- what stands behind the mission is no plan for it
pub record IsNoPlan (bytes : List ℕ) (r : Refusal) : Type 0 where
  pub behind : IsBehindRefusal bytes r
  pub some : EndsAt bytes behind.used → ⊥

-- why the bytes are no input of a run
abbrev pub IsRunRefusal : List ℕ → Refusal → Type 0
IsRunRefusal bytes r = IsFrontRefusalOf bytes r ⊎ IsNoPlan bytes r

-- with so many nodes for each search, and devices that told this
abbrev pub Sims : ℕ → List Heard → List ℕ → Status → List ℕ → Type 0
Sims nodes heard bytes status text = (IsRun nodes heard bytes status text ⊎ IsAlone nodes heard bytes status text) ⊎ ((status ≡ Refused) × IsRefused (IsRunRefusal bytes) text)
