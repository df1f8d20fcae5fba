-- The bounds that a part adds to those of a partial plan.
use Rattle.std.specs.Prelude.{List, Option, [], cond, negsuc, pos, slice_get, suc, ℕ, ◌++◌, ◌∷◌}
use Rattle.hs_base.specs.Bounds.{apart, goals_of, on_some, together}
use Rattle.hs_base.specs.Schedule.{Meets, Schedule, bound}
use Rattle.hs_base.specs.declared.mission.Goal.{Goal}
use Rattle.hs_base.specs.declared.mission.Mission.{Mission}
use Rattle.hs_base.specs.declared.net.Bound.{Bound}
use Rattle.search_tree.specs.Begun.{Begun, newest, number}
use Rattle.search_tree.specs.Partial.{Partial, cells, held_at, held_by, row}
use Rattle.search_tree.specs.PartialBounds.{backing_bounds, last_stop, partial_bounds, token_bounds}
use Rattle.search_tree.specs.Parts.{do_part, gap_cell, joined_cell}
use Rattle.search_tree.specs.declared.held.Cell.{Cell}
use Rattle.search_tree.specs.declared.part.Part.{Part}
use Rattle.search_tree.specs.declared.part.Part.TheVariants.{Deferred, Finished, Followed, Inserted, Joined, MetGoal, Supported}

-- the token behind the point x
abbrev pub link : ℕ → Cell → List Bound
link x c = cond c.joined (together c.held.start x) (bound c.held.start x (pos 0) ∷ [])

-- a new token behind the point x, and a gap to the token behind it, if there is one
abbrev pub cell_bounds : Mission → Begun → ℕ → Cell → Option Cell → List Bound
cell_bounds m b x c o = token_bounds m b c.held ++ link x c ++ on_some o (λ (d : Cell). bound d.held.start c.held.stop (pos 0) ∷ [])

abbrev pub part_bounds : Mission → Begun → Partial → Part → List Bound
part_bounds m b p (Inserted v i value) = cell_bounds m b (held_at p v.0 i).stop (gap_cell p v.0 value.0) (slice_get (cells (row p v.0)) (suc i))
part_bounds m b p (Followed v i value) = cell_bounds m b (held_at p v.0 i).stop (joined_cell p v.0 i value.0) (slice_get (cells (row p v.0)) (suc i))
part_bounds m b p (Joined v i) = together (held_at p v.0 (suc i)).start (held_at p v.0 i).stop
part_bounds m b p (Finished v) = bound (last_stop 0 (cells (row p v.0))) (newest b) (negsuc 0) ∷ []
part_bounds m b p (Supported t i by) = backing_bounds m (record { token = held_by p t; need = i; by = held_by p by })
part_bounds m b p (MetGoal g by) = on_some (slice_get (goals_of m (number b)) g) (λ (goal : Goal). apart (held_by p by).start 0 goal.start ++ apart (held_by p by).stop 0 goal.stop)
part_bounds m b p (Deferred t i) = []

-- the partial plan with the part has the schedules that keep those bounds too
pub record Adds (m : Mission) (b : Begun) (p : Partial) (part : Part) : Type 0 where
  pub keeps : (t : Schedule) → Meets (partial_bounds m b (do_part p part)) t → Meets (partial_bounds m b p ++ part_bounds m b p part) t
  pub tells : (t : Schedule) → Meets (partial_bounds m b p ++ part_bounds m b p part) t → Meets (partial_bounds m b (do_part p part)) t
