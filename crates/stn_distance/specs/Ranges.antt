-- The ranges of points, weights and times.
use Rattle.std.specs.Prelude.{◌≡◌, ℕ, ◌<◌, List, length, ℤ, pos, neg_ℤ, ◌-ℤ◌, ◌≤ℤ◌}
use Rattle.hs_base.specs.declared.limits.TheConstants.{LAST}
use Rattle.hs_base.specs.declared.net.Bound.{Bound}
use Rattle.hs_base.specs.declared.plan.Time.{Time}
use Rattle.hs_base.specs.Schedule.{Implied, time_of}

-- both points are among the first n, and the weight is within LAST of 0
pub record IsInRange (n : ℕ) (b : Bound) : Type 0 where
  pub from_below : b.from.0 < n
  pub to_below : b.to.0 < n
  pub low : neg_ℤ LAST ≤ℤ b.most
  pub high : b.most ≤ℤ LAST

-- the same, but that the weight may be less by one, as that of a bound that is broken where another holds
pub record IsInSearch (n : ℕ) (b : Bound) : Type 0 where
  pub from_below : b.from.0 < n
  pub to_below : b.to.0 < n
  pub low : (neg_ℤ LAST -ℤ pos 1) ≤ℤ b.most
  pub high : b.most ≤ℤ LAST

-- every schedule has each of the first n points within 0 to LAST
pub record StaysInTime (n : ℕ) (bounds : List Bound) : Type 0 where
  pub after_origin : (p : ℕ) → p < n → Implied bounds p 0 (pos 0)
  pub before_last : (p : ℕ) → p < n → Implied bounds 0 p LAST

-- every schedule has the point at exactly its time
pub record IsFixed (n : ℕ) (bounds : List Bound) (f : Time) : Type 0 where
  pub below : f.point.0 < n
  pub not_before : Implied bounds f.point.0 0 (neg_ℤ f.at)
  pub not_after : Implied bounds 0 f.point.0 f.at

-- each time is in -w to w
pub record AreWithin (n : ℕ) (w : ℕ) (times : List ℤ) : Type 0 where
  pub size : length times ≡ n
  pub low : (p : ℕ) → p < n → neg_ℤ (pos w) ≤ℤ time_of times p
  pub high : (p : ℕ) → p < n → time_of times p ≤ℤ pos w

-- times from which a search may start
abbrev pub IsStart : ℕ → List ℤ → Type 0
IsStart n times = AreWithin n 4000000000000 times

-- times that are far from where a sum would overflow
abbrev pub IsNear : ℕ → List ℤ → Type 0
IsNear n times = AreWithin n 300000000000000 times
