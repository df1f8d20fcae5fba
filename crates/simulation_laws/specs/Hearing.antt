-- How the scripts of a device stand with its answered polls.
use Rattle.std.specs.Prelude.{◌≡◌, ◌≢◌, ℕ, Bool, cond, ℤ, pos, int_le, ◌≤ℤ◌, List, [], ◌∷◌, ◌++◌, map, filter, Some, None, flat_map}
use Rattle.std.specs.Int.{int_max}
use Rattle.std.specs.List.{AllByRecursion, list_any}
use Rattle.hs_base.specs.declared.ids.WordId.{WordId}
use Rattle.hs_base.specs.Bounds.{on_some}
use Rattle.hs_base.specs.Schedule.{numbers_from}
use Rattle.hs_machine.specs.Reports.{Polls, Script, Performed, still_awaited, finish, latest, performed_after, is_running}

-- what is awaited of some words once the answers that come later than a tick are heard
abbrev pub left_after : ℤ → List WordId → Polls → List WordId
left_after after ws [] = ws
left_after after ws (p ∷ polls) = cond (int_le p.0 after) (left_after after ws polls) (left_after after (still_awaited ws p.1) polls)

-- the finish of the last of some scripts
abbrev pub last_finish : ℤ → List Script → Polls → ℤ
last_finish before [] polls = before
last_finish before (s ∷ scripts) polls = last_finish (latest before (finish (int_max before s.begun) s.words polls)) scripts polls

-- the script was finished at that tick or before
pub record IsOver (n : ℤ) (p : Performed) : Type 0 where
  pub at : ℤ
  pub is : p.finish ≡ Some at
  pub by : at ≤ℤ n

-- a device that runs no script: all of its scripts were finished at that tick or before
pub record Rests (scripts : List Script) (polls : Polls) (n : ℤ) : Type 0 where
  pub over : AllByRecursion (IsOver n) (performed_after (pos 0) scripts polls)

-- a device that runs the last of its scripts, which still awaits these words
pub record Runs (scripts : List Script) (polls : Polls) (n : ℤ) (s : Script) (left : List WordId) : Type 0 where
  pub front : List Script
  pub is : scripts ≡ front ++ s ∷ []
  pub rests : Rests front polls n
  pub begun : s.begun ≤ℤ n
  pub unfinished : finish (int_max (last_finish (pos 0) front polls) s.begun) s.words polls ≡ None
  pub left_is : left ≡ left_after (int_max (last_finish (pos 0) front polls) s.begun) s.words polls
  pub some : left ≢ []

-- every answered poll was made at that tick or before
abbrev pub AreBy : ℤ → Polls → Type 0
AreBy n polls = AllByRecursion (λ p. p.0 ≤ℤ n) polls

-- whether one of the scripts runs at a tick, and began before
abbrev pub runs_at : List Script → Polls → ℤ → Bool
runs_at scripts polls tick = list_any (is_running tick) (performed_after (pos 0) scripts polls)

-- the ticks of the polls are the ticks 1 to k at which one does
abbrev pub AskedTo : ℕ → List Script → Polls → Type 0
AskedTo k scripts polls = map (λ p. p.0) polls ≡ filter (runs_at scripts polls) (map pos (numbers_from 1 k))

-- the points that the scripts tell, each with its tick
abbrev pub told_by : List Script → Polls → List (ℕ × ℤ)
told_by scripts polls = flat_map (λ (p : Performed). on_some p.finish (λ at. (p.script.point, at) ∷ [])) (performed_after (pos 0) scripts polls)
