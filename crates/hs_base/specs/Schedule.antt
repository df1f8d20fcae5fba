-- Simple temporal networks (Dechter, Meiri, Pearl 1991): bounds `t(to) - t(from) <= most` on the times
-- of points, and the schedules that meet them.
use Rattle.std.specs.Prelude.{◌≡◌, ℕ, ◌<◌, ℤ, pos, ◌-ℤ◌, ◌≤ℤ◌, List, length, get_or}
use Rattle.std.specs.List.{AllByRecursion, range_with_len}
use Rattle.hs_base.specs.Types.{Bound}

-- a time for each point
abbrev pub Schedule : Type 0
Schedule = ℕ → ℤ

-- the times that a list gives
abbrev pub time_of : List ℤ → Schedule
time_of s p = get_or s p (pos 0)

-- t(q) - t(p) <= w
abbrev pub bound : ℕ → ℕ → ℤ → Bound
bound p q w = record { from = record { 0 = p }; to = record { 0 = q }; most = w }

-- the times keep the bound
abbrev pub Holds : Schedule → Bound → Type 0
Holds t b = (t b.to.0 -ℤ t b.from.0) ≤ℤ b.most

-- t is a schedule of the bounds: the origin stands at 0, and every bound is kept
pub record Meets (bounds : List Bound) (t : Schedule) : Type 0 where
  pub origin : t 0 ≡ pos 0
  pub each : AllByRecursion (Holds t) bounds

-- the same of a list with a time for each of c points
pub record MeetsList (c : ℕ) (bounds : List Bound) (s : List ℤ) : Type 0 where
  pub size : length s ≡ c
  pub times : Meets bounds (time_of s)

-- the bounds have no schedule
pub record HasNoSchedule (bounds : List Bound) : Type 0 where
  pub none : (t : Schedule) → Meets bounds t → ⊥

-- in every schedule q is at most w after p
pub record Implied (bounds : List Bound) (p q : ℕ) (w : ℤ) : Type 0 where
  pub holds : (t : Schedule) → Meets bounds t → (t q -ℤ t p) ≤ℤ w

-- w is the least such weight: the distance from p to q
pub record Tight (bounds : List Bound) (p q : ℕ) (w : ℤ) : Type 0 where
  pub implied : Implied bounds p q w
  pub least : (v : ℤ) → Implied bounds p q v → w ≤ℤ v

-- both points of a bound are among the first c
abbrev pub IsBelow : ℕ → Bound → Type 0
IsBelow c b = (b.from.0 < c) × (b.to.0 < c)

-- from, from + 1, .., as many as n
abbrev pub numbers_from : ℕ → ℕ → List ℕ
numbers_from from n = range_with_len from n
