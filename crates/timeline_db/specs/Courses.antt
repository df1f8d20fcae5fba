-- Trails that grow by the points and bounds of parts.
use Rattle.std.specs.Prelude.{◌≡◌, ℕ, List, ◌++◌, map, replicate}
use Rattle.hs_base.specs.declared.net.Bound.{Bound}
use Rattle.stn_trail.specs.Held.{Held}
use Rattle.stn_trail.specs.declared.part.Part.{Part}
use Rattle.stn_trail.specs.declared.part.Part.TheVariants.{Added, Grown}

-- so many points, and then these bounds, as parts of a trail
abbrev pub parts_with : ℕ → List Bound → List Part
parts_with n bounds = replicate n Grown ++ map (λ b. Added b) bounds

-- these parts come behind those that were there
pub record Gains (more : List Part) (old new : Held) : Type 0 where
  pub first : new.first ≡ old.first
  pub parts : new.parts ≡ old.parts ++ more

-- some parts come behind those that were there
pub record IsLonger (old new : Held) : Type 0 where
  pub more : List Part
  pub gains : Gains more old new

-- the points and parts are the same
pub record IsSame (old new : Held) : Type 0 where
  pub first : new.first ≡ old.first
  pub parts : new.parts ≡ old.parts
