-- What the doing of a resolver does.
use Rattle.std.specs.Prelude.{List, ◌++◌, ◌≡◌}
use Rattle.search_laws.specs.Good.{AreAllowed}
use Rattle.search_tree.specs.Resolvers.{parts_of}
use Rattle.search_tree.specs.declared.flaw.Flaw.{Flaw}
use Rattle.search_tree.specs.declared.flaw.Resolver.{Resolver}
use Rattle.search_tree.specs.declared.part.Part.{Part}
use Rattle.timeline_db.specs.Plannings.{Planning, partial_of}

-- these parts are done, and nothing else
abbrev pub DoesParts : List Part → Planning → Planning → Type 0
DoesParts xs old new = new ≡ record { mission = old.mission; begun = old.begun; parts = old.parts ++ xs }

-- the resolver's parts are done, and nothing else
abbrev pub Resolves : Flaw → Resolver → Planning → Planning → Type 0
Resolves f r old new = DoesParts (parts_of (partial_of old) f r) old new

-- some parts are done, and nothing else
pub record Prolongs (old new : Planning) : Type 0 where
  pub more : List Part
  pub is : DoesParts more old new

-- the parts may be done, one after another
abbrev pub MayDoParts : Planning → List Part → Type 0
MayDoParts d xs = AreAllowed d.mission d.begun (partial_of d) xs
