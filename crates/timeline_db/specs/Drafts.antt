-- What a part changes, as the code holds it.
use Rattle.std.specs.Prelude.{◌≡◌, ℕ, List, [], ◌∷◌, ◌++◌, length}
use Rattle.hs_base.specs.declared.net.Bound.{Bound}
use Rattle.search_tree.specs.declared.part.Part.{Part}
use Rattle.timeline_db.specs.Courses.{Gains, IsSame, parts_with}
use Rattle.timeline_db.specs.declared.board.Board.{Board}
use Rattle.timeline_db.specs.declared.draft.Draft.{Draft}

-- the part's points and bounds come onto the trail, and it is noted
pub record Takes (x : Part) (grown : ℕ) (bounds : List Bound) (old new : Draft) : Type 0 where
  pub gains : Gains (parts_with grown bounds) old.course.trail new.course.trail
  pub steps : new.course.steps.items ≡ old.course.steps.items ++ record { part = x; mark = length old.course.trail.parts } ∷ []

-- all that is shown of a board stays
pub record KeepsBoard (old new : Board) : Type 0 where
  pub lines : new.lines.items ≡ old.lines.items
  pub supports : new.supports.items ≡ old.supports.items
  pub goals : new.goals.items ≡ old.goals.items
  pub deferred : new.deferred.items ≡ old.deferred.items
  pub points : new.points ≡ old.points
  pub added : new.added ≡ old.added
  pub total : new.total ≡ old.total

pub record KeepsDraft (old new : Draft) : Type 0 where
  pub board : KeepsBoard old.board new.board
  pub trail : IsSame old.course.trail new.course.trail
  pub steps : new.course.steps.items ≡ old.course.steps.items
