-- A script that hears answers, and how it agrees with what scripts are defined to do.
use Rattle.std.specs.Prelude.{◌≡◌, ◌≢◌, ◌⊎◌, ℤ, int_le, not, List, [], ◌∷◌, map, filter, Some, None}
use Rattle.hs_base.specs.declared.mission.Step.{Step}
use Rattle.hs_machine.specs.Reports.{Polls, awaited, finish}
use Rattle.hs_port.specs.declared.device.Answer.{Answer}
use Rattle.device_script.specs.Runs.{Stage, begun, hearing}

-- the stage after some answers
abbrev pub heard : Stage → List Answer → Stage
heard s [] = s
heard s (answer ∷ answers) = heard (hearing s answer) answers

-- the answers that come after a tick
abbrev pub answers_after : ℤ → Polls → List Answer
answers_after t polls = map (λ p. p.1) (filter (λ p. not (int_le p.0 t)) polls)

-- by these answers the script isn't finished and awaits a word, or it is finished and awaits none
abbrev pub AreAlike : List Step → ℤ → Polls → Type 0
AreAlike steps t polls =
    ((finish t (awaited steps) polls ≡ None) × ((heard (begun steps) (answers_after t polls)).left ≢ []))
    ⊎ ((at : ℤ) × (finish t (awaited steps) polls ≡ Some at) × ((heard (begun steps) (answers_after t polls)).left ≡ []))
