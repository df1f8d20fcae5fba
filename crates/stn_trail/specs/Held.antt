-- Trails as their callers see them.
use Rattle.std.specs.Prelude.{◌≡◌, ℕ, ◌+◌, List, [], ◌∷◌, ◌++◌, take, ℤ}
use Rattle.hs_base.specs.declared.net.Bound.{Bound}
use Rattle.hs_base.specs.Schedule.{MeetsList}
use Rattle.stn_trail.specs.declared.part.Part.{Part}
use Rattle.stn_trail.specs.declared.part.Part.TheVariants.{Grown, Added}

-- the first points, the parts in order, and a time for each point
pub record Held : Type 0 where
  pub first : ℕ
  pub parts : List Part
  pub times : List ℤ

-- how many points were grown
abbrev pub grown : List Part → ℕ
grown [] = 0
grown (Grown ∷ ps) = grown ps + 1
grown (Added b ∷ ps) = grown ps

-- the bounds that were added
abbrev pub added : List Part → List Bound
added [] = []
added (Grown ∷ ps) = added ps
added (Added b ∷ ps) = b ∷ added ps

-- how many points there are
abbrev pub points_of : Held → ℕ
points_of t = t.first + grown t.parts

-- the bounds, in the order in which they were added
abbrev pub bounds_of : Held → List Bound
bounds_of t = added t.parts

-- the times are a schedule of the bounds
abbrev pub IsKept : Held → Type 0
IsKept t = MeetsList (points_of t) (bounds_of t) t.times

-- so many points and no part
pub record IsFresh (points : ℕ) (t : Held) : Type 0 where
  pub first : t.first ≡ points
  pub parts : t.parts ≡ []

-- the part was appended
pub record Appends (part : Part) (old new : Held) : Type 0 where
  pub first : new.first ≡ old.first
  pub parts : new.parts ≡ old.parts ++ part ∷ []

-- the first n parts are left
pub record Leaves (n : ℕ) (old new : Held) : Type 0 where
  pub first : new.first ≡ old.first
  pub parts : new.parts ≡ take n old.parts
