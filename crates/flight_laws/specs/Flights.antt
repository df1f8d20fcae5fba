-- A flight of one plan: its history, and how far it still has to go.
use Rattle.std.specs.Prelude.{◌≡◌, ◌≢◌, ℕ, ◌+◌, ◌-◌, ◌<◌, false, List, [], ◌∷◌, ◌++◌, length, filter, Some}
use Rattle.std.specs.Option.{is_none}
use Rattle.std.specs.List.{AllByRecursion}
use Rattle.hs_base.specs.declared.ids.PointId.{PointId}
use Rattle.hs_base.specs.declared.mission.Value.{Value}
use Rattle.hs_base.specs.declared.mission.Var.{Var}
use Rattle.hs_machine.specs.declared.history.Deed.TheVariants.{Fire}
use Rattle.hs_base.specs.Points.{hor}
use Rattle.hs_base.specs.declared.plan.Extension.{Extension}
use Rattle.hs_base.specs.declared.mission.Mission.{Mission}
use Rattle.hs_machine.specs.declared.history.Entry.{Entry}
use Rattle.hs_base.specs.Schedule.{numbers_from}
use Rattle.hs_machine.specs.State.{now_of, plan_of, count_at, executed, has_failed, hands_over, watched}
use Rattle.hs_machine.specs.Machine.{fire, done, Replies}
use Rattle.hs_machine.specs.Eager.{Eager}
use Rattle.hs_machine.specs.Run.{Run}

-- the points that are not executed
abbrev pub open_points : List Entry → List ℕ
open_points h = filter (λ x. is_none (executed h x)) (numbers_from 0 (count_at h))

-- no history has more ticks and points to come before its horizon, which is at most a million
abbrev pub steps_left : List Entry → ℕ
steps_left h = (1000000 - now_of h) + length (open_points h)

-- the first entry hands an extension over
pub record BeginsByHandover (h : List Entry) : Type 0 where
  pub first : Entry
  pub others : List Entry
  pub extension : Extension
  pub hands : hands_over first.deed ≡ Some extension
  pub is : h ≡ first ∷ others

-- no point of the plan is observed
abbrev pub IsUnwatched : Mission → List Entry → Type 0
IsUnwatched m h = (x : ℕ) → watched m h x ≡ false

-- no value is ended by a device
abbrev pub HasNoDevices : Mission → Type 0
HasNoDevices m = AllByRecursion (λ (var : Var). AllByRecursion (λ (v : Value). v.by_device ≡ false) var.values) m.vars

-- the eager run of one plan, which was handed over at its beginning
pub record IsFlight (m : Mission) (es : List Extension) (h : List Entry) : Type 0 where
  pub run : Run m h
  pub plan : plan_of h ≡ es
  pub sound : has_failed h ≡ false
  pub eager : Eager m h
  pub begins : BeginsByHandover h

-- the history ends by executing this point, with the plan that it had before
pub record EndsByFiring (h : List Entry) (x : PointId) : Type 0 where
  pub before : List Entry
  pub by : ℕ
  pub plan : plan_of before ≡ plan_of h
  pub last : h ≡ before ++ (record { by = by; deed = Fire x }) ∷ []

-- the newest horizon's point
abbrev pub mark_of : List Extension → PointId
mark_of es = record { 0 = hor es (length es) }

-- an eager run of a plan without devices, which has so many points
pub record IsFlying (m : Mission) (h : List Entry) (points : ℕ) : Type 0 where
  pub flight : IsFlight m (plan_of h) h
  pub some : plan_of h ≢ []
  pub no_devices : HasNoDevices m
  pub points_are : points ≡ count_at h

-- none of the first points may be fired
abbrev pub AreStill : Mission → List Entry → ℕ → Type 0
AreStill m h points = (x : ℕ) → x < points → Replies m h (fire x) done → ⊥
