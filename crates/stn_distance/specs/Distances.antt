-- All distances of a network.
use Rattle.std.specs.Prelude.{◌≡◌, ℕ, ◌<◌, ◌≤◌, List, [], length, map, get_or, All, ℤ, pos, neg_ℤ, ◌+ℤ◌, ◌-ℤ◌, ◌≤ℤ◌}
use Rattle.hs_base.specs.declared.net.Bound.{Bound}
use Rattle.hs_base.specs.Schedule.{Tight, time_of, numbers_from}
use Rattle.hs_base.specs.Reduced.{Table, IsTableOf}
use Rattle.stn_distance.specs.Ranges.{IsInRange, StaysInTime}
use Rattle.stn_distance.specs.Folding.{number_at}

-- the number of points, the bounds, and a row of distances for each point
pub record Distances : Type 0 where
  pub count : ℕ
  pub bounds : List Bound
  pub rows : List (List ℤ)

-- the distance from p to q
abbrev pub weight : Distances → Table
weight d p q = time_of (get_or d.rows p []) q

-- d has the distances of the first n points under these bounds
pub record IsDistOf (n : ℕ) (given : List Bound) (d : Distances) : Type 0 where
  pub count : d.count ≡ n
  pub bounds : d.bounds ≡ given
  pub table : IsTableOf n given (weight d)

-- the rows of the first n points of a table
abbrev pub rows_of_table : ℕ → Table → List (List ℤ)
rows_of_table n d = map (λ p. map (d p) (numbers_from 0 n)) (numbers_from 0 n)

-- the distance of two points by that of their rows
abbrev pub folded_weight : List ℕ → List ℤ → List (List ℤ) → Table
folded_weight places offsets rows p q = (time_of (get_or rows (number_at places p) []) (number_at places q) +ℤ time_of offsets q) -ℤ time_of offsets p

-- the rows and offsets give the distances of the bounds
pub record IsExact (n : ℕ) (bounds : List Bound) (places : List ℕ) (offsets : List ℤ) (rows : List (List ℤ)) : Type 0 where
  pub places_len : length places ≡ n
  pub offsets_len : length offsets ≡ n
  pub some : 1 ≤ n
  pub few : n ≤ 131072
  pub place_in : (p : ℕ) → p < n → number_at places p < length rows
  pub row_len : (r : ℕ) → r < length rows → length (get_or rows r []) ≡ length rows
  pub offset_low : (p : ℕ) → p < n → pos 0 ≤ℤ time_of offsets p
  pub offset_high : (p : ℕ) → p < n → time_of offsets p ≤ℤ pos 1000000000
  pub low : (r s : ℕ) → r < length rows → s < length rows → neg_ℤ (pos 1000000000) ≤ℤ time_of (get_or rows r []) s
  pub high : (r s : ℕ) → r < length rows → s < length rows → time_of (get_or rows r []) s ≤ℤ pos 1000000000
  pub range : All (IsInRange n) bounds
  pub stays : StaysInTime n bounds
  pub tight : (p q : ℕ) → p < n → q < n → Tight bounds p q (folded_weight places offsets rows p q)
