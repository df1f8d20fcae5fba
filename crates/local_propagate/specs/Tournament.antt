-- Trees of games in which the lesser number wins: place k has the lesser of those at 2 k and 2 k + 1.
use Rattle.std.specs.Prelude.{◌≡◌, ◌≢◌, ℕ, ◌+◌, ◌/◌, ◌<◌, ◌≤◌, ℤ, pos, List, length, get_or}
use Rattle.std.specs.Int.{int_min}

-- the game at a place is won by the lesser
abbrev pub IsWon : List ℤ → ℕ → Type 0
IsWon tree k = get_or tree k (pos 0) ≡ int_min (get_or tree (k + k) (pos 0)) (get_or tree (k + k + 1) (pos 0))

-- all games are, but perhaps that which place `at` takes part in
pub record IsWonBut (at size : ℕ) (tree : List ℤ) : Type 0 where
  pub won : (k : ℕ) → 1 ≤ k → k < size → k ≢ at / 2 → IsWon tree k

-- a tree over as many numbers, which stand from place `size` on
pub record IsTournament (size : ℕ) (tree : List ℤ) : Type 0 where
  pub places : length tree ≡ size + size
  pub won : (k : ℕ) → 1 ≤ k → k < size → IsWon tree k
