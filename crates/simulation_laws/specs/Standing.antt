-- How a device stands in a run: what it was asked, what of it is told, and what it does.
use Rattle.std.specs.Prelude.{◌≡◌, ◌⊎◌, ℕ, ◌<◌, true, pos, List, [], ◌∷◌, ◌++◌, length, Some, None, ⊤, MatchBool}
use Rattle.hs_base.specs.declared.ids.WordId.{WordId}
use Rattle.hs_base.specs.declared.mission.Mission.{Mission}
use Rattle.hs_base.specs.declared.mission.Value.{Value}
use Rattle.hs_base.specs.Points.{ending, place_of, points_of, start_at, value_of}
use Rattle.hs_machine.specs.declared.history.Entry.{Entry}
use Rattle.hs_machine.specs.Reports.{Polls, Script, awaited, scripts_of}
use Rattle.hs_machine.specs.State.{executed, plan_of, watched}
use Rattle.hs_machine.specs.Views.{Line, line_of}
use Rattle.simulation_laws.specs.Hearing.{AreBy, AskedTo, Rests, Runs, told_by}
use Rattle.simulation_laws.specs.Reported.{reports_in, timeline_in}

-- nothing, or the last script, which still awaits these words
pub data Standing : Type 0 where
  resting : Standing
  running : Script → List WordId → Standing

abbrev pub IsStanding : List Script → Polls → ℕ → Standing → Type 0
IsStanding scripts polls k resting = Rests scripts polls (pos k)
IsStanding scripts polls k (running s left) = Runs scripts polls (pos k) s left

-- the device was asked at each tick up to k as it should be, and the history has the reports of its answers
pub record Attends (m : Mission) (h : List Entry) (d : ℕ) (polls : Polls) (k : ℕ) (st : Standing) : Type 0 where
  pub standing : IsStanding (scripts_of m h d) polls k st
  pub by : AreBy (pos k) polls
  pub asked : AskedTo k (scripts_of m h d) polls
  pub told : reports_in h d ≡ told_by (scripts_of m h d) polls

-- the same, but a script has just finished, and its report is still to come
pub record Finishes (m : Mission) (h : List Entry) (d : ℕ) (polls : Polls) (k : ℕ) (s : Script) : Type 0 where
  pub rests : Rests (scripts_of m h d) polls (pos k)
  pub by : AreBy (pos k) polls
  pub asked : AskedTo k (scripts_of m h d) polls
  pub told : told_by (scripts_of m h d) polls ≡ reports_in h d ++ (s.point, pos k) ∷ []

-- the script is that of a token whose start is executed, and whose end is open and observed
pub record IsOpen (m : Mission) (h : List Entry) (d : ℕ) (s : Script) : Type 0 where
  pub place : ℕ
  pub below : place < length (timeline_in (plan_of h) d)
  pub end : place_of (ending d place) (points_of (plan_of h)) ≡ s.point
  pub started : executed h (start_at (plan_of h) d place) ≡ Some s.begun
  pub waits : executed h s.point ≡ None
  pub observed : watched m h s.point ≡ true

-- where a script runs, it is open
abbrev pub Opens : Mission → List Entry → ℕ → Standing → Type 0
Opens m h d resting = ⊤
Opens m h d (running s left) = IsOpen m h d s

-- the device attends at tick k, and what it runs is open
pub record Stands (m : Mission) (h : List Entry) (d : ℕ) (polls : Polls) (k : ℕ) (st : Standing) : Type 0 where
  pub attends : Attends m h d polls k st
  pub opens : Opens m h d st

-- nothing, or a script that began at tick k and still awaits all of its words
abbrev pub HasJustBegun : ℕ → Standing → Type 0
HasJustBegun k resting = ⊤
HasJustBegun k (running s left) = (s.begun ≡ pos k) × (left ≡ s.words)

-- the device rests, or has just begun a script
abbrev pub StandsAnew : Mission → List Entry → ℕ → Polls → ℕ → Type 0
StandsAnew m h d polls k = (st : Standing) × Stands m h d polls k st × HasJustBegun k st

-- it goes on as it stood, or it rested and stands anew
abbrev pub StandsOn : Mission → List Entry → ℕ → Polls → ℕ → Standing → Type 0
StandsOn m h d polls k st = Stands m h d polls k st ⊎ ((st ≡ resting) × StandsAnew m h d polls k)

-- the script of a line's token, whose value this is
abbrev pub script_on : Line → Value → Script
script_on line v = record { point = line.end; begun = line.start; words = awaited v.script }

-- the device runs the script of its timeline's current token where a device ends it, and rests elsewhere
pub record StandsByLine (m : Mission) (h : List Entry) (d : ℕ) (st : Standing) : Type 0 where
  pub value : Value
  pub is_value : value_of m (record { sv = record { 0 = d }; value = record { 0 = (line_of m h d).value } }) ≡ Some value
  pub does : MatchBool value.by_device ((left : List WordId) × (st ≡ running (script_on (line_of m h d) value) left)) (st ≡ resting)
