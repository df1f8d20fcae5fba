-- What `plan` and `net` make of an input.
use Rattle.std.specs.Prelude.{◌≡◌, ◌⊎◌, ℕ, List, []}
use Rattle.hs_base.specs.declared.mission.Mission.{Mission}
use Rattle.hs_base.specs.declared.plan.Extension.{Extension}
use Rattle.hs_base.specs.declared.net.Net.{Net}
use Rattle.hs_base.specs.Bounds.{bounds_of}
use Rattle.hs_texts.specs.MissionSpelling.{IsRefusalOf}
use Rattle.hs_texts.specs.NetText.{net_text}
use Rattle.hs_texts.specs.PlanText.{plan_text}
use Rattle.hs_base.specs.Points.{count}
use Rattle.hs_base.specs.Reduced.{IsReducedOf}
use Rattle.commands.specs.Inputs.{IsWhole, IsRefused}
use Rattle.commands.specs.Searches.{Searches}
use Rattle.commands.specs.declared.status.Status.{Status}
use Rattle.commands.specs.declared.status.Status.TheVariants.{Refused}

-- the text of the plan
abbrev pub IsPlanText : Mission → List Extension → List ℕ → Type 0
IsPlanText m es text = text ≡ plan_text m es

-- the text of the plan's reduced network
abbrev pub IsNetText : Mission → List Extension → List ℕ → Type 0
IsNetText m es text = (net : Net) × IsReducedOf (count es) (bounds_of m es) net × (text ≡ net_text m es net)

-- the bytes are an accepted mission, of whose first plan this is told
pub record IsSearched (What : Mission → List Extension → List ℕ → Type 0) (nodes : ℕ) (bytes : List ℕ) (status : Status) (text : List ℕ) : Type 0 where
  pub mission : Mission
  pub whole : IsWhole bytes mission
  pub searches : Searches mission nodes [] (What mission) status text

-- what a command that tells this of the first plan makes of an input
abbrev pub Tells : (Mission → List Extension → List ℕ → Type 0) → ℕ → List ℕ → Status → List ℕ → Type 0
Tells What nodes bytes status text = IsSearched What nodes bytes status text ⊎ ((status ≡ Refused) × IsRefused (IsRefusalOf bytes) text)

abbrev pub Plans : ℕ → List ℕ → Status → List ℕ → Type 0
Plans nodes bytes status text = Tells IsPlanText nodes bytes status text

abbrev pub Nets : ℕ → List ℕ → Status → List ℕ → Type 0
Nets nodes bytes status text = Tells IsNetText nodes bytes status text
