-- Distances from one point to all.
use Rattle.std.specs.Prelude.{◌≡◌, ℕ, ◌+◌, ◌<◌, ◌≤◌, List, [], length, map, get_or, sum_by, ℤ, pos, neg_ℤ, ◌≤ℤ◌, Vec}
use Rattle.std.specs.declared.alloc.Global.{Global}
use Rattle.hs_base.specs.declared.net.Bound.{Bound}
use Rattle.hs_base.specs.Schedule.{Schedule, time_of, Meets, Implied, Tight}
use Rattle.stn_distance.specs.Causes.{above}

-- both points are among the first n, and the weight is no more than two folded times can make it
pub record IsStep (n : ℕ) (b : Bound) : Type 0 where
  pub from_below : b.from.0 < n
  pub to_below : b.to.0 < n
  pub low : neg_ℤ (pos 3000000000) ≤ℤ b.most
  pub high : b.most ≤ℤ pos 3000000000

-- a schedule within 0 and LAST
pub record Sample (count : ℕ) (bounds : List Bound) : Type 0 where
  pub schedule : Schedule
  pub meets : Meets bounds schedule
  pub low : (v : ℕ) → v < count → pos 0 ≤ℤ schedule v
  pub high : (v : ℕ) → v < count → schedule v ≤ℤ pos 1000000000

-- no schedule has a point further from p than the row says
pub record Reaches (count : ℕ) (bounds : List Bound) (p : ℕ) (row : List ℤ) : Type 0 where
  pub row_len : length row ≡ count
  pub implied : (q : ℕ) → q < count → Implied bounds p q (time_of row q)
  pub high : (q : ℕ) → q < count → time_of row q ≤ℤ pos 2000000000
  pub source : time_of row p ≤ℤ pos 0

-- how far the numbers of a row can still fall together
abbrev pub room : List ℤ → ℕ
room row = sum_by (above 1000000000) row

-- the distances from p
pub record IsRow (count : ℕ) (bounds : List Bound) (p : ℕ) (row : List ℤ) : Type 0 where
  pub row_len : length row ≡ count
  pub tight : (q : ℕ) → q < count → Tight bounds p q (time_of row q)

-- a row for each point
pub record AreRows (count : ℕ) (bounds : List Bound) (rows : List (List ℤ)) : Type 0 where
  pub rows_len : length rows ≡ count
  pub each : (p : ℕ) → p < count → IsRow count bounds p (get_or rows p [])

-- the lists in vectors
abbrev pub items_of : List (Vec ℤ Global) → List (List ℤ)
items_of rows = map (λ row. row.items) rows

-- numbers within 0 and LAST, one for each point
pub record AreSmall (count : ℕ) (s : List ℤ) : Type 0 where
  pub size : length s ≡ count
  pub low : (v : ℕ) → v < count → pos 0 ≤ℤ time_of s v
  pub high : (v : ℕ) → v < count → time_of s v ≤ℤ pos 1000000000

-- where the part of each point begins in a list of n, with the end of the last part behind them
pub record IsIndex (count n : ℕ) (first : List ℕ) : Type 0 where
  pub first_len : length first ≡ count + 1
  pub rising : (u : ℕ) → u < count → get_or first u 0 ≤ get_or first (u + 1) 0
  pub high : (u : ℕ) → u < count + 1 → get_or first u 0 ≤ n

-- no schedule has the first point further from a point than the column says
pub record Returns (count : ℕ) (bounds : List Bound) (column : List ℤ) : Type 0 where
  pub column_len : length column ≡ count
  pub back : (p : ℕ) → p < count → Implied bounds p 0 (time_of column p)
  pub cap : (p : ℕ) → p < count → time_of column p ≤ℤ pos 0
