-- Room for more points.
use Rattle.std.specs.Prelude.{◌≡◌, ℕ, List, take, ℤ}
use Rattle.hs_base.specs.declared.net.Bound.{Bound}
use Rattle.stn_trail.specs.declared.moves.Move.{Move}
use Rattle.stn_trail.specs.declared.part.Step.{Step}
use Rattle.stn_trail.specs.History.{IsTrail}

-- a trail of so many points stays one with the new rows and times, and its points keep their times
pub record Widens (count : ℕ) (moves : List Move) (rows : List (List Bound)) (times : List ℤ) (rows' : List (List Bound)) (times' : List ℤ) : Type 0 where
  pub trail : (first : ℕ) (steps : List Step) → IsTrail first count steps rows moves times → IsTrail first count steps rows' moves times'
  pub same : take count times' ≡ take count times
