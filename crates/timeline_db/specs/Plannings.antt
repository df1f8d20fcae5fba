-- A partial plan as the callers of a Db see it.
use Rattle.std.specs.Prelude.{◌≡◌, List, [], ◌∷◌, ◌++◌}
use Rattle.hs_base.specs.declared.mission.Mission.{Mission}
use Rattle.search_tree.specs.Begun.{Begun}
use Rattle.search_tree.specs.May.{MayDo}
use Rattle.search_tree.specs.Partial.{Partial, begin}
use Rattle.search_tree.specs.PartialBounds.{HasSchedule}
use Rattle.search_tree.specs.Parts.{do_part, do_parts}
use Rattle.search_tree.specs.declared.part.Part.{Part}

-- what is known where the search began, and the parts done since
pub record Planning : Type 0 where
  pub mission : Mission
  pub begun : Begun
  pub parts : List Part

-- the partial plan is the result of the parts in order
abbrev pub partial_of : Planning → Partial
partial_of d = do_parts (begin d.mission d.begun) d.parts

-- the part may be done
abbrev pub MayDoNow : Planning → Part → Type 0
MayDoNow d x = MayDo d.mission d.begun (partial_of d) x

-- one part more is done, and nothing else
abbrev pub Does : Part → Planning → Planning → Type 0
Does x old new = new ≡ record { mission = old.mission; begun = old.begun; parts = old.parts ++ x ∷ [] }

-- the bounds of the partial plan have a schedule
abbrev pub IsOpen : Planning → Type 0
IsOpen d = HasSchedule d.mission d.begun (partial_of d)

-- with that part they would have none
abbrev pub WouldShut : Part → Planning → Type 0
WouldShut x d = HasSchedule d.mission d.begun (do_part (partial_of d) x) → ⊥
