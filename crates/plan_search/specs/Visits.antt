-- What a visit of a node finds.
use Rattle.std.specs.Prelude.{List, [], ◌≡◌, length}
use Rattle.hs_base.specs.Checked.{joined}
use Rattle.hs_base.specs.declared.mission.Mission.{Mission}
use Rattle.hs_base.specs.declared.plan.Extension.{Extension}
use Rattle.plan_check.specs.Planned.{Planned}
use Rattle.plan_search.specs.declared.frames.Frame.{Frame}
use Rattle.plan_search.specs.declared.visiting.Visited.{Visited}
use Rattle.plan_search.specs.declared.visiting.Visited.TheVariants.{Inner, Leaf, Plan}
use Rattle.search_tree.specs.Extends.{extension}
use Rattle.search_tree.specs.Flaws.{flaws}
use Rattle.search_tree.specs.Resolvers.{resolvers}
use Rattle.timeline_db.specs.Heads.{IsHead}
use Rattle.timeline_db.specs.Plannings.{Planning, partial_of}

-- the frame is that of the partial plan, with no child taken yet
pub record IsFirstFrame (d : Planning) (f : Frame) : Type 0 where
  pub head : IsHead (flaws d.mission d.begun (partial_of d)) f.flaw
  pub listed : f.resolvers ≡ resolvers d.mission d.begun (partial_of d) f.flaw
  pub next : f.next ≡ 0
  pub mark : f.mark ≡ length d.parts

-- the partial plan has no flaw, and c is the plan with its extension
pub record IsWhole (d : Planning) (c : Planned) : Type 0 where
  pub flawless : flaws d.mission d.begun (partial_of d) ≡ []
  pub mission : c.mission ≡ d.mission
  pub is : c.plan.extensions ≡ joined d.begun.base (extension d.mission d.begun (partial_of d))

abbrev pub IsVisited : (Mission → List Extension → Type 0) → Planning → Visited → Type 0
IsVisited takes d (Inner f) = IsFirstFrame d f
IsVisited takes d (Plan c) = IsWhole d c × takes d.mission c.plan.extensions
IsVisited takes d Leaf = (flaws d.mission d.begun (partial_of d) ≡ []) × (takes d.mission (joined d.begun.base (extension d.mission d.begun (partial_of d))) → ⊥)
