-- A moment of an execution, and what is decided in it.
use Rattle.std.specs.Prelude.{◌≡◌, ◌⊎◌, ℕ, ◌≤◌, Bool, ℤ, List}
use Rattle.hs_base.specs.Types.{Bound, Extension, Mission}
use Rattle.hs_base.specs.Schedule.{Schedule, Meets, bound}
use Rattle.hs_base.specs.Points.{count, is_observed}
use Rattle.hs_base.specs.Bounds.{bounds_of}
use Rattle.hs_base.specs.Fits.{Times, MayBeNow, MayTick, IsTiedTo, Forbids, IsDue, LateBound}

-- the number of points, their bounds, the times of those that are executed, now, and which points are observed
pub record Moment : Type 0 where
  pub points : ℕ
  pub bounds : List Bound
  pub at : Times
  pub tick : ℤ
  pub observed : ℕ → Bool

-- that of a plan with these executed times, at this tick
abbrev pub moment_in : Mission → List Extension → Times → ℤ → Moment
moment_in m es at n = record { points = count es; bounds = bounds_of m es; at = at; tick = n; observed = is_observed m es }

-- some fitting schedule gives x the time now
abbrev pub MayFire : Moment → ℕ → Type 0
MayFire w x = MayBeNow w.points w.bounds w.at w.tick x

-- some fitting schedule gives every point that is not executed a later time
abbrev pub MayGoOn : Moment → Type 0
MayGoOn w = MayTick w.points w.bounds w.at w.tick

-- x is one of the points that have to be fired before the next tick
abbrev pub MustFire : Moment → ℕ → Type 0
MustFire w x = IsDue w.points w.bounds w.at w.tick w.observed x

-- y is observed, not executed, another point than x, and has x's time in every schedule
abbrev pub IsTied : Moment → ℕ → ℕ → Type 0
IsTied w x y = IsTiedTo w.points w.bounds w.at w.observed x y

-- y is the least of these
pub record IsLeastTied (w : Moment) (x y : ℕ) : Type 0 where
  pub tied : IsTied w x y
  pub least : (z : ℕ) → IsTied w x z → y ≤ z

-- x is tied to none
abbrev pub IsUntied : Moment → ℕ → Type 0
IsUntied w x = (y : ℕ) → IsTied w x y → ⊥

-- b is a tight bound of x, which the execution of x now would break
abbrev pub Bars : Moment → ℕ → Bound → Type 0
Bars w x b = (f : Forbids w.points w.bounds w.at w.tick x) × (b ≡ bound x f.to f.most)

-- b is a tight bound to an observed point, which the next tick would break
abbrev pub IsLate : Moment → Bound → Type 0
IsLate w b = (l : LateBound w.points w.bounds w.at w.tick w.observed) × (b ≡ bound l.from l.to l.most)

-- a tick may be taken, or some point must be fired first
abbrev pub IsInTime : Moment → Type 0
IsInTime w = MayGoOn w ⊎ ((x : ℕ) × MustFire w x)

-- two lists of bounds have the same schedules
pub record HaveSame (k l : List Bound) : Type 0 where
  pub there : (s : Schedule) → Meets k s → Meets l s
  pub back : (s : Schedule) → Meets l s → Meets k s

-- two moments have the same schedules, executed times and observed points, at the same tick
pub record AreAlike (v w : Moment) : Type 0 where
  pub points : v.points ≡ w.points
  pub schedules : HaveSame v.bounds w.bounds
  pub at : v.at ≡ w.at
  pub tick : v.tick ≡ w.tick
  pub observed : v.observed ≡ w.observed
