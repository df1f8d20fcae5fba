-- How far a search has come.
use Rattle.std.specs.List.{AllByRecursion}
use Rattle.std.specs.Prelude.{List, [], drop, length, map, take, ℕ, ◌++◌, ◌-◌, ◌<◌, ◌∷◌, ◌≡◌, ◌≤◌}
use Rattle.hs_base.specs.Walks.{EachAfter}
use Rattle.hs_base.specs.declared.mission.Mission.{Mission}
use Rattle.hs_base.specs.declared.plan.Extension.{Extension}
use Rattle.plan_search.specs.declared.frames.Frame.{Frame}
use Rattle.search_tree.specs.Begun.{Begun}
use Rattle.search_tree.specs.Flaws.{flaws}
use Rattle.search_tree.specs.Partial.{Partial, begin}
use Rattle.search_tree.specs.PartialBounds.{HasSchedule}
use Rattle.search_tree.specs.Parts.{do_parts}
use Rattle.search_tree.specs.Resolvers.{resolvers}
use Rattle.search_tree.specs.Search.{IsTaken, Kids, Node, offspring, root}
use Rattle.search_tree.specs.Tree.{NoneEnds, Preorder}
use Rattle.search_tree.specs.declared.part.Part.{Part}
use Rattle.timeline_db.specs.Heads.{IsHead}

-- the numbers of the children that were taken last
abbrev pub path_to : List Frame → List ℕ
path_to frames = map (λ (f : Frame). f.next - 1) frames

-- the partial plan of a frame, where these parts are done
abbrev pub plan_at : Mission → Begun → List Part → Frame → Partial
plan_at m b parts f = do_parts (begin m b) (take f.mark parts)

-- its node, where `before` are the frames before it
abbrev pub node_of : Mission → Begun → List Part → List Frame → Frame → Node
node_of m b parts before f = record { path = path_to before; plan = plan_at m b parts f }

-- the trees that are left below frames, those of the last frame first
abbrev pub left_below : Mission → Begun → List Part → List Frame → List Frame → List Node
left_below m b parts before [] = []
left_below m b parts before (f ∷ fs) = left_below m b parts (before ++ f ∷ []) fs ++ drop f.next (offspring m b (node_of m b parts before f))

-- the frame is of a node with a schedule and a flaw, behind frames whose last child leads to it
pub record IsFrame (m : Mission) (b : Begun) (parts : List Part) (before : List Frame) (f : Frame) : Type 0 where
  pub head : IsHead (flaws m b (plan_at m b parts f)) f.flaw
  pub listed : f.resolvers ≡ resolvers m b (plan_at m b parts f) f.flaw
  pub ahead : HasSchedule m b (plan_at m b parts f)
  pub next : f.next ≤ length f.resolvers
  pub mark : f.mark ≤ length parts
  pub below : AllByRecursion (λ (g : Frame). (g.mark ≤ f.mark) × (0 < g.next)) before

-- so many nodes were taken in preorder, none of which ends the search, and the trees below the frames are left
pub record IsSearched (takes : Mission → List Extension → Type 0) (m : Mission) (b : Begun) (parts : List Part) (stack : List Frame) (count : ℕ) : Type 0 where
  pub frames : EachAfter (IsFrame m b parts) [] stack
  pub seen : List Node
  pub walk : Preorder (Kids m b) (root m b ∷ []) seen (left_below m b parts [] stack)
  pub none : NoneEnds (Kids m b) (IsTaken takes m b) (λ n. n.path) seen
  pub many : length seen ≡ count

-- the same, and the next node is n, before the trees below the frames
pub record Reaches (takes : Mission → List Extension → Type 0) (m : Mission) (b : Begun) (parts : List Part) (stack : List Frame) (n : Node) (count : ℕ) : Type 0 where
  pub frames : EachAfter (IsFrame m b parts) [] stack
  pub ready : AllByRecursion (λ (f : Frame). 0 < f.next) stack
  pub path : n.path ≡ path_to stack
  pub seen : List Node
  pub walk : Preorder (Kids m b) (root m b ∷ []) seen (n ∷ left_below m b parts [] stack)
  pub none : NoneEnds (Kids m b) (IsTaken takes m b) (λ n. n.path) seen
  pub many : length seen ≡ count
