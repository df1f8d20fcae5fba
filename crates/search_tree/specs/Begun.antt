-- What is known where a search begins: the plan that is to be extended, and what was executed since.
use Rattle.std.specs.Prelude.{List, [], length, suc, ℕ, ℤ, ◌++◌, ◌∷◌}
use Rattle.hs_base.specs.Points.{hor}
use Rattle.hs_base.specs.Snapshots.{Snapshot}
use Rattle.hs_base.specs.declared.plan.Extension.{Extension}
use Rattle.hs_base.specs.declared.plan.Time.{Time}

pub record Begun : Type 0 where
  pub base : List Extension
  pub since : ℤ
  pub fixed : List Time

-- what a snapshot says of it
abbrev pub begun_of : Snapshot → Begun
begun_of s = record { base = s.plan; since = s.since; fixed = s.fixed }

-- the next extension, as if it brought no token
abbrev pub pending : Begun → Extension
pending b = record { base = length b.base; since = b.since; fixed = b.fixed; tokens = []; supports = []; goals = [] }

-- the plan with it
abbrev pub stub : Begun → List Extension
stub b = b.base ++ pending b ∷ []

-- the number of the next extension, counted from 1
abbrev pub number : Begun → ℕ
number b = suc (length b.base)

-- the point of the next horizon
abbrev pub newest : Begun → ℕ
newest b = hor (stub b) (number b)
