-- The parts of a trail with the times that they had.
use Rattle.std.specs.Prelude.{◌≡◌, ℕ, ◌+◌, ◌≤◌, List, length, map, take, slice_index_or, ℤ, All}
use Rattle.hs_base.specs.declared.net.Bound.{Bound}
use Rattle.hs_base.specs.Schedule.{time_of, Meets}
use Rattle.stn_distance.specs.Ranges.{IsInRange}
use Rattle.stn_trail.specs.declared.moves.Move.{Move}
use Rattle.stn_trail.specs.declared.part.Part.{Part}
use Rattle.stn_trail.specs.declared.part.Step.{Step}
use Rattle.stn_trail.specs.Moves.{times_at}
use Rattle.stn_trail.specs.Rows.{AreRowsOf}
use Rattle.stn_trail.specs.Held.{grown, added}

-- the parts of the steps
abbrev pub parts_of : List Step → List Part
parts_of steps = map (λ s. s.part) steps

-- how many moves there were when there were k parts
abbrev pub moves_at : List Step → List Move → ℕ → ℕ
moves_at steps moves k = slice_index_or (map (λ s. s.since) steps) k (length moves)

-- the times keep the bounds among the parts
pub record StandsAt (first : ℕ) (parts : List Part) (times : List ℤ) : Type 0 where
  pub range : All (IsInRange (first + grown parts)) (added parts)
  pub meets : Meets (added parts) (time_of times)

-- the times that each front of the parts had keep its bounds
pub record IsHistory (first : ℕ) (steps : List Step) (moves : List Move) (times : List ℤ) : Type 0 where
  pub rising : (j k : ℕ) → j ≤ k → k ≤ length steps → moves_at steps moves j ≤ moves_at steps moves k
  pub stood : (k : ℕ) → k ≤ length steps → StandsAt first (parts_of (take k steps)) (times_at (moves_at steps moves k) moves times)

-- the fields of a trail: there is room for its points, its bounds stand in the rows, and its times keep them
pub record IsTrail (first count : ℕ) (steps : List Step) (rows : List (List Bound)) (moves : List Move) (times : List ℤ) : Type 0 where
  pub some : 1 ≤ first
  pub counted : count ≡ first + grown (parts_of steps)
  pub few : count ≤ 131072
  pub rows_room : count ≤ length rows
  pub times_room : length rows ≤ length times
  pub rows_of : AreRowsOf (added (parts_of steps)) rows
  pub history : IsHistory first steps moves times
