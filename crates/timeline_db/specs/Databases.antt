-- What holds of a Db.
use Rattle.std.specs.Prelude.{◌≡◌, ℕ, ℤ, ◌+◌, Some, List, [], ◌∷◌, ◌++◌, length, map, take, slice_get}
use Rattle.hs_base.specs.declared.mission.Mission.{Mission}
use Rattle.search_tree.specs.Begun.{Begun}
use Rattle.search_tree.specs.Outset.{MayBegin}
use Rattle.search_tree.specs.Partial.{Partial, begin}
use Rattle.search_tree.specs.PartialBounds.{root_bounds}
use Rattle.search_tree.specs.Parts.{do_part, do_parts, grown_by}
use Rattle.search_tree.specs.Resolvers.{new_tokens, tokens}
use Rattle.search_tree.specs.declared.part.Part.{Part}
use Rattle.stn_trail.specs.Held.{Held as Trailed}
use Rattle.stn_trail.specs.declared.part.Part.{Part as TrailPart}
use Rattle.stn_trail.specs.declared.part.Part.TheVariants.{Added}
use Rattle.timeline_db.specs.Boards.{pictured}
use Rattle.timeline_db.specs.Courses.{parts_with}
use Rattle.search_laws.specs.Good.{AreAllowed}
use Rattle.timeline_db.specs.Kept.{kept_bounds, tick_of}
use Rattle.timeline_db.specs.Tracked.{AreTracked}
use Rattle.timeline_db.specs.declared.board.Board.{Board}
use Rattle.timeline_db.specs.declared.course.Step.{Step}

-- the parts that were done, in order
abbrev pub parts_of : List Step → List Part
parts_of steps = map (λ (s : Step). s.part) steps

-- what the parts bring to the trail
abbrev pub brought_by : Mission → Begun → Partial → List Part → List TrailPart
brought_by m b p [] = []
brought_by m b p (x ∷ xs) = parts_with (grown_by x) (kept_bounds m b p x) ++ brought_by m b (do_part p x) xs

-- the trail's parts: those with which the search began, and those of its parts
abbrev pub trail_parts : Mission → Begun → List Part → List TrailPart
trail_parts m b xs = map (λ c. Added c) (root_bounds m b (begin m b)) ++ brought_by m b (begin m b) xs

-- the trail has what the steps brought, and each step the trail's length before it
pub record IsCourse (m : Mission) (b : Begun) (steps : List Step) (trail : Trailed) : Type 0 where
  pub first : trail.first ≡ (begin m b).points
  pub parts : trail.parts ≡ trail_parts m b (parts_of steps)
  pub marks : (k : ℕ) (s : Step) → slice_get steps k ≡ Some s → s.mark ≡ length (trail_parts m b (take k (parts_of steps)))

-- the counts are those of the partial plan
pub record IsCounted (p : Partial) (board : Board) : Type 0 where
  pub added : board.added ≡ new_tokens p
  pub total : board.total ≡ tokens p

pub record IsDb (m : Mission) (b : Begun) (tick : ℤ) (board : Board) (steps : List Step) (trail : Trailed) : Type 0 where
  pub begins : MayBegin m b
  pub horizon : tick ≡ tick_of m b
  pub allowed : AreAllowed m b (begin m b) (parts_of steps)
  pub shows : pictured board ≡ do_parts (begin m b) (parts_of steps)
  pub counts : IsCounted (do_parts (begin m b) (parts_of steps)) board
  pub tracked : AreTracked m b (do_parts (begin m b) (parts_of steps)) board.lines.items
  pub course : IsCourse m b steps trail
