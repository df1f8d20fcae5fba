-- Points whose times are fixed are folded into the row of point 0.
use Rattle.std.specs.Prelude.{◌≡◌, ◌⊎◌, ℕ, Bool, ◌<◌, ◌≤◌, not, nat_eq, List, length, get_or, map, filter, Contains, ℤ, pos, ◌+ℤ◌, ◌-ℤ◌}
use Rattle.hs_base.specs.declared.net.Bound.{Bound}
use Rattle.hs_base.specs.declared.plan.Time.{Time}
use Rattle.hs_base.specs.Schedule.{Schedule, time_of, bound}

-- the number at a place
abbrev pub number_at : List ℕ → ℕ → ℕ
number_at xs i = get_or xs i 0

-- the point is a row of its own
abbrev pub IsRowPoint : List ℕ → List ℕ → List ℤ → ℕ → Type 0
IsRowPoint points places offsets p = (number_at points (number_at places p) ≡ p) × (time_of offsets p ≡ pos 0)

-- the point stands at row 0, at its fixed time
abbrev pub IsFixedPoint : List Time → List ℕ → List ℤ → ℕ → Type 0
IsFixedPoint fixed places offsets p = (number_at places p ≡ 0) × Contains fixed (record { point = record { 0 = p }; at = time_of offsets p })

-- the first n points are folded into rows, and only fixed ones are no rows of their own
pub record IsFolding (n : ℕ) (fixed : List Time) (points places : List ℕ) (offsets : List ℤ) : Type 0 where
  pub places_len : length places ≡ n
  pub offsets_len : length offsets ≡ n
  pub some : 0 < length points
  pub few : length points ≤ n
  pub origin : number_at points 0 ≡ 0
  pub below : (r : ℕ) → r < length points → number_at points r < n
  pub place_in : (p : ℕ) → p < n → number_at places p < length points
  pub home : (r : ℕ) → r < length points → number_at places (number_at points r) ≡ r
  pub at_home : (r : ℕ) → r < length points → time_of offsets (number_at points r) ≡ pos 0
  pub each : (p : ℕ) → p < n → IsRowPoint points places offsets p ⊎ IsFixedPoint fixed places offsets p

-- the bound between the rows of two points
abbrev pub folded_bound : List ℕ → List ℤ → Bound → Bound
folded_bound places offsets b = bound (number_at places b.from.0) (number_at places b.to.0) ((b.most +ℤ time_of offsets b.from.0) -ℤ time_of offsets b.to.0)

-- the bound's points are different
abbrev pub is_apart : Bound → Bool
is_apart b = not (nat_eq b.from.0 b.to.0)

-- those between different rows
abbrev pub folded_bounds : List ℕ → List ℤ → List Bound → List Bound
folded_bounds places offsets bounds = filter is_apart (map (folded_bound places offsets) bounds)

-- the times of points by those of rows
abbrev pub spread_times : List ℕ → List ℤ → Schedule → Schedule
spread_times places offsets s p = s (number_at places p) +ℤ time_of offsets p
