-- Times, and the moves that led to them.
use Rattle.std.specs.Prelude.{◌≡◌, ℕ, ◌≤◌, List, [], ◌∷◌, length, drop, slice_set, ℤ}
use Rattle.stn_trail.specs.declared.moves.Move.{Move}

-- the times before the moves, of which the last one was made last
abbrev pub restored : List Move → List ℤ → List ℤ
restored [] times = times
restored (m ∷ ms) times = slice_set (restored ms times) m.point m.time

-- the times when there were n moves
abbrev pub times_at : ℕ → List Move → List ℤ → List ℤ
times_at n moves times = restored (drop n moves) times

-- later moves keep the times at each of the first n moves in memory
pub record KeepsPast (n : ℕ) (moves : List Move) (times : List ℤ) (moves' : List Move) (times' : List ℤ) : Type 0 where
  pub enough : n ≤ length moves'
  pub same : (k : ℕ) → k ≤ n → times_at k moves' times' ≡ times_at k moves times
