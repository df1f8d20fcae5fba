-- A stage hears as the words that its script awaits are heard.
use Rattle.std.proofs.Common.{◌≡◌, ◌≤◌, Bool, true, false, cond, nat_eq, List, [], ◌∷◌, length, refl, ap, arith}
use Rattle.std.specs.Prelude.{ℤ}
use Rattle.hs_base.specs.declared.ids.WordId.{WordId}
use Rattle.hs_base.specs.declared.mission.Step.{Step}
use Rattle.hs_base.specs.declared.mission.Step.TheVariants.{Do, Until}
use Rattle.hs_port.specs.declared.device.Answer.{Answer}
use Rattle.hs_port.specs.declared.device.Answer.TheVariants.{Quiet, Said}
use Rattle.hs_machine.specs.Reports.{awaited, still_awaited}
use Rattle.device_script.specs.Runs.{Orders, Stage, from_wait, begun, go_on, after_answer, hearing, IsStage}

-- the orders in front await nothing
pub awaited_from : (steps : List Step) → awaited (from_wait steps) ≡ awaited steps
awaited_from [] = refl
awaited_from (Do word amount ∷ steps) = awaited_from steps
awaited_from (Until word ∷ steps) = refl

-- and from the first word on there are none
pub twice_from : (steps : List Step) → from_wait (from_wait steps) ≡ from_wait steps
twice_from [] = refl
twice_from (Do word amount ∷ steps) = twice_from steps
twice_from (Until word ∷ steps) = refl

pub begun_awaits : (steps : List Step) → awaited (begun steps).left ≡ awaited steps
begun_awaits steps = awaited_from steps

pub begun_stage : (steps : List Step) → IsStage (begun steps)
begun_stage steps = record { stops = twice_from steps }

heard : (ready : Orders) (steps : List Step) (said word : WordId) (same : Bool) → awaited (cond same (go_on ready steps) (record { ready = ready; left = Until word ∷ steps })).left ≡ cond same (awaited steps) (word ∷ awaited steps)
heard ready steps said word true = awaited_from steps
heard ready steps said word false = refl

-- the steps from a word on are no more than all
no_more : (steps : List Step) → length (from_wait steps) ≤ length steps
no_more [] = omega arith
no_more (Do word amount ∷ steps) = omega (arith, no_more steps)
no_more (Until word ∷ steps) = omega arith

-- no order stands before them
no_order : (word : WordId) (amount : ℤ) (steps : List Step) → from_wait (Do word amount ∷ steps) ≡ Do word amount ∷ steps → ⊥
no_order word amount steps stops = omega (arith, no_more steps, ap length stops)

awaited_after : (ready : Orders) (left : List Step) → from_wait left ≡ left → (answer : Answer) → awaited (after_answer ready left answer).left ≡ still_awaited (awaited left) answer
awaited_after ready [] stops answer = refl
awaited_after ready (Do word amount ∷ steps) stops answer = absurd (no_order word amount steps stops)
awaited_after ready (Until word ∷ steps) stops Quiet = refl
awaited_after ready (Until word ∷ steps) stops (Said said) = heard ready steps said word (nat_eq said.0 word.0)

stops_by : (ready : Orders) (steps : List Step) (word : WordId) (same : Bool) → from_wait (cond same (go_on ready steps) (record { ready = ready; left = Until word ∷ steps })).left ≡ (cond same (go_on ready steps) (record { ready = ready; left = Until word ∷ steps })).left
stops_by ready steps word true = twice_from steps
stops_by ready steps word false = refl

stops_after : (ready : Orders) (left : List Step) → from_wait left ≡ left → (answer : Answer) → from_wait (after_answer ready left answer).left ≡ (after_answer ready left answer).left
stops_after ready [] stops answer = refl
stops_after ready (Do word amount ∷ steps) stops answer = stops
stops_after ready (Until word ∷ steps) stops Quiet = refl
stops_after ready (Until word ∷ steps) stops (Said said) = stops_by ready steps word (nat_eq said.0 word.0)

none_awaited : (left : List Step) → from_wait left ≡ left → awaited left ≡ [] → left ≡ []
none_awaited [] stops none = refl
none_awaited (Do word amount ∷ steps) stops none = absurd (no_order word amount steps stops)
none_awaited (Until word ∷ steps) stops none = absurd (omega (arith, ap length none))

-- one answer
module _ (s : Stage) (stage : IsStage s) where
  pub hears_awaited : (answer : Answer) → awaited (hearing s answer).left ≡ still_awaited (awaited s.left) answer
  hears_awaited answer = awaited_after s.ready s.left stage.stops answer

  pub hears_stage : (answer : Answer) → IsStage (hearing s answer)
  hears_stage answer = record { stops = stops_after s.ready s.left stage.stops answer }

  -- the script is finished once nothing is awaited
  pub left_none : awaited s.left ≡ [] → s.left ≡ []
  left_none none = none_awaited s.left stage.stops none
