-- What a device reports: the tokens whose scripts it has finished, and when; and when it is asked.
use Rattle.std.specs.Prelude.{◌≡◌, ℕ, suc, Bool, true, cond, ◌&&◌, nat_eq, ℤ, pos, int_lt, int_le, List, [], ◌∷◌, ◌++◌, map, filter, false, flat_map, Option, Some, None}
use Rattle.std.specs.Int.{int_max}
use Rattle.std.specs.List.{list_any}
use Rattle.hs_machine.specs.declared.history.Entry.{Entry}
use Rattle.hs_base.specs.declared.ids.WordId.{WordId}
use Rattle.hs_base.specs.declared.mission.Kind.{Kind}
use Rattle.hs_base.specs.declared.mission.Mission.{Mission}
use Rattle.hs_base.specs.declared.mission.Step.{Step}
use Rattle.hs_base.specs.declared.mission.Step.TheVariants.{Do, Until}
use Rattle.hs_base.specs.declared.mission.Value.{Value}
use Rattle.hs_base.specs.Bounds.{on_some}
use Rattle.hs_base.specs.Fits.{time_at}
use Rattle.hs_base.specs.Points.{ending, place_of, points_of, start_at, timeline_of, tokens_of, value_of}
use Rattle.hs_base.specs.Schedule.{numbers_from}
use Rattle.hs_machine.specs.State.{now_of, plan_of, times_of}
use Rattle.hs_port.specs.declared.device.Answer.{Answer}
use Rattle.hs_port.specs.declared.device.Answer.TheVariants.{Quiet, Said}

-- the answered polls of a device: the tick and the answer
abbrev pub Polls : Type 0
Polls = List (ℤ × Answer)

-- the words that a script waits for, in order
abbrev pub awaited : List Step → List WordId
awaited [] = []
awaited (Do word amount ∷ steps) = awaited steps
awaited (Until word ∷ steps) = word ∷ awaited steps

-- what is still awaited after an answer: the first word is heard in its turn, another one is skipped
abbrev pub still_awaited : List WordId → Answer → List WordId
still_awaited [] answer = []
still_awaited (w ∷ ws) Quiet = w ∷ ws
still_awaited (w ∷ ws) (Said word) = cond (nat_eq word.0 w.0) ws (w ∷ ws)

abbrev pub is_none_left : List WordId → Bool
is_none_left [] = true
is_none_left (w ∷ ws) = false

-- the tick after `after` at which the last awaited word is heard in its turn
abbrev pub finish : ℤ → List WordId → Polls → Option ℤ
finish after ws [] = None
finish after ws (p ∷ polls) = cond (int_le p.0 after) (finish after ws polls)
    (cond (is_none_left (still_awaited ws p.1)) (Some p.0) (finish after (still_awaited ws p.1) polls))

-- a script that has begun: the end of its token, the tick of its beginning, and what it waits for
pub record Script : Type 0 where
  pub point : ℕ
  pub begun : ℤ
  pub words : List WordId

-- the script of the token at place i of timeline d, if a device ends it and its start was executed
abbrev pub script_of : Mission → List Entry → ℕ → ℕ → Kind → List Script
script_of m h d i k = on_some (value_of m k) (λ (v : Value). cond v.by_device
    (on_some (time_at (times_of h) (start_at (plan_of h) d i)) (λ at.
    record { point = place_of (ending d i) (points_of (plan_of h)); begun = at; words = awaited v.script } ∷ []))
    [])

-- the scripts of the tokens from place i on
abbrev pub scripts_from : Mission → List Entry → ℕ → ℕ → List Kind → List Script
scripts_from m h d i [] = []
scripts_from m h d i (k ∷ ks) = script_of m h d i k ++ scripts_from m h d (suc i) ks

-- the scripts that device d has begun, in the order of its timeline
abbrev pub scripts_of : Mission → List Entry → ℕ → List Script
scripts_of m h d = scripts_from m h d 0 (timeline_of (tokens_of (plan_of h)) d)

-- a script with the tick at which it finishes, if it does
pub record Performed : Type 0 where
  pub script : Script
  pub finish : Option ℤ

-- the later of a tick and a finish
abbrev pub latest : ℤ → Option ℤ → ℤ
latest before None = before
latest before (Some at) = at

-- each script hears the answers after its beginning and after the finish before it
abbrev pub performed_after : ℤ → List Script → Polls → List Performed
performed_after before [] polls = []
performed_after before (s ∷ scripts) polls =
    record { script = s; finish = finish (int_max before s.begun) s.words polls }
    ∷ performed_after (latest before (finish (int_max before s.begun) s.words polls)) scripts polls

-- the scripts of device d, given its answered polls
abbrev pub performed : Mission → List Entry → ℕ → Polls → List Performed
performed m h d polls = performed_after (pos 0) (scripts_of m h d) polls

-- the points that device d reports, each with its tick
abbrev pub reports_of : Mission → List Entry → ℕ → Polls → List (ℕ × ℤ)
reports_of m h d polls = flat_map (λ (p : Performed). on_some p.finish (λ at. (p.script.point, at) ∷ [])) (performed m h d polls)

-- a tick comes no later than the finish, if there is one
abbrev pub is_by : ℤ → Option ℤ → Bool
is_by tick None = true
is_by tick (Some at) = int_le tick at

-- the script runs at the tick, and began before it
abbrev pub is_running : ℤ → Performed → Bool
is_running tick p = int_lt p.script.begun tick && is_by tick p.finish

-- device d was asked once at each tick up to now at which a script of it runs that began before,
-- and at no other
abbrev pub Asked : Mission → List Entry → ℕ → Polls → Type 0
Asked m h d polls =
    map (λ p. p.0) polls ≡ filter (λ tick. list_any (is_running tick) (performed m h d polls)) (map pos (numbers_from 1 (now_of h)))
