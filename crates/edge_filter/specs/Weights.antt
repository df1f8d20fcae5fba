-- Rows of weights: for each leader those of the edges between it and each, on one side.
use Rattle.std.specs.Prelude.{◌≡◌, ℕ, ℤ, neg_ℤ, ◌≤ℤ◌, List, length, map, All}
use Rattle.hs_base.specs.declared.limits.TheConstants.{LAST}
use Rattle.hs_base.specs.Reduced.{Table}
use Rattle.edge_filter.specs.declared.side.Side.{Side}
use Rattle.edge_filter.specs.Sides.{along}

-- within LAST of 0
pub record IsNear (w : ℤ) : Type 0 where
  pub low : neg_ℤ LAST ≤ℤ w
  pub high : w ≤ℤ LAST

-- n such weights
pub record IsRow (n : ℕ) (row : List ℤ) : Type 0 where
  pub long : length row ≡ n
  pub near : All IsNear row

-- n such rows
pub record IsGrid (n : ℕ) (grid : List (List ℤ)) : Type 0 where
  pub long : length grid ≡ n
  pub rows : All (IsRow n) grid

-- for each of some leaders, the weights of all edges on that side of it
abbrev pub weights_on : Side → Table → List ℕ → List ℕ → List (List ℤ)
weights_on side d ls some = map (λ a. map (along side d a) ls) some
