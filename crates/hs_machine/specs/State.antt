-- The state that a history of entries leaves.
use Rattle.std.specs.Prelude.{ℕ, ◌+◌, Bool, true, false, cond, ℤ, pos, List, [], ◌∷◌, ◌++◌, length, filter_map, map, option_to_list, is_some, Option, Some, None}
use Rattle.std.specs.List.{list_any}
use Rattle.hs_base.specs.declared.ids.PointId.{PointId}
use Rattle.hs_base.specs.declared.net.Bound.{Bound}
use Rattle.hs_base.specs.declared.plan.Time.{Time}
use Rattle.hs_base.specs.declared.plan.Extension.{Extension}
use Rattle.hs_base.specs.declared.mission.Mission.{Mission}
use Rattle.hs_machine.specs.Types.{Deed, Tick, Fire, Report, Handover, Late, Early, Broken, Entry, Phase, Waiting, Running, Failed, Ended}
use Rattle.hs_base.specs.Points.{count, hor, is_observed}
use Rattle.hs_base.specs.Bounds.{bounds_of}
use Rattle.hs_base.specs.Schedule.{Schedule}
use Rattle.hs_base.specs.Fits.{Times, time_at, Fits}
use Rattle.hs_base.specs.Moments.{Moment, moment_in}

abbrev pub is_tick : Deed → Bool
is_tick Tick = true
is_tick _ = false

-- a deed that ends the run
abbrev pub is_failure : Deed → Bool
is_failure (Late b) = true
is_failure (Early b) = true
is_failure (Broken d) = true
is_failure _ = false

-- the point that a deed executes
abbrev pub executes : Deed → Option PointId
executes (Fire x) = Some x
executes (Report x) = Some x
executes _ = None

-- the extension that a deed hands over
abbrev pub hands_over : Deed → Option Extension
hands_over (Handover e n) = Some e
hands_over _ = None

-- what one entry adds to the time
abbrev pub ticks_of : Entry → ℕ
ticks_of e = cond (is_tick e.deed) 1 0

-- the time now: the number of ticks
abbrev pub now_of : List Entry → ℕ
now_of [] = 0
now_of (e ∷ h) = ticks_of e + now_of h

-- the point that an entry executes at time n, with this time
abbrev pub time_of_entry : ℕ → Entry → List Time
time_of_entry n e = map (λ x. record { point = x; at = pos n }) (option_to_list (executes e.deed))

-- the executed points of a history that begins at time n
abbrev pub times_from : ℕ → List Entry → List Time
times_from n [] = []
times_from n (e ∷ h) = time_of_entry n e ++ times_from (n + ticks_of e) h

-- Z at 0, and each executed point with its time
abbrev pub times_of : List Entry → List Time
times_of h = record { point = record { 0 = 0 }; at = pos 0 } ∷ times_from 0 h

-- the newest plan: the extensions that were handed over, in order
abbrev pub plan_of : List Entry → List Extension
plan_of h = filter_map (λ e. hands_over e.deed) h

-- Count, bounds, times, time and observed points of the state, as the definitions of what fits take them.
abbrev pub count_at : List Entry → ℕ
count_at h = count (plan_of h)

abbrev pub bounds_at : Mission → List Entry → List Bound
bounds_at m h = bounds_of m (plan_of h)

abbrev pub executed : List Entry → Times
executed h = time_at (times_of h)

abbrev pub tick_at : List Entry → ℤ
tick_at h = pos (now_of h)

abbrev pub watched : Mission → List Entry → ℕ → Bool
watched m h x = is_observed m (plan_of h) x

-- the moment that the history has come to
abbrev pub moment_of : Mission → List Entry → Moment
moment_of m h = moment_in m (plan_of h) (executed h) (tick_at h)

-- s is a schedule of the newest plan, agrees with what was executed, and gives every other point now or later
abbrev pub FitsState : Mission → List Entry → Schedule → Type 0
FitsState m h s = Fits (count_at h) (bounds_at m h) (executed h) (tick_at h) s

abbrev pub has_failed : List Entry → Bool
has_failed h = list_any (λ e. is_failure e.deed) h

-- the newest plan's horizon point is executed
abbrev pub has_ended : List Entry → Bool
has_ended h = is_some (executed h (hor (plan_of h) (length (plan_of h))))

abbrev pub is_empty : {X : Type 0} → List X → Bool
is_empty [] = true
is_empty (x ∷ xs) = false

abbrev pub phase_of : List Entry → Phase
phase_of h = cond (has_failed h) Failed (cond (is_empty (plan_of h)) Waiting (cond (has_ended h) Ended Running))
