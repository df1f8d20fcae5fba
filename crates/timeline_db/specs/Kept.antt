-- The bounds that a part puts on the trail: those of its definition, without what others imply.
use Rattle.std.specs.Prelude.{ℕ, ℤ, pos, neg_ℤ, ◌-ℤ◌, ◌+ℤ◌, suc, cond, ◌&&◌, int_le, int_lt, List, [], ◌∷◌, ◌++◌, Option, filter, length, option_map, unwrap_or, slice_get}
use Rattle.hs_base.specs.Bounds.{apart, on_some, together, goals_of}
use Rattle.hs_base.specs.Points.{value_of}
use Rattle.hs_base.specs.Schedule.{bound}
use Rattle.hs_base.specs.declared.limits.TheConstants.{LAST}
use Rattle.hs_base.specs.declared.mission.Goal.{Goal}
use Rattle.hs_base.specs.declared.mission.Horizon.{Horizon}
use Rattle.hs_base.specs.declared.mission.Mission.{Mission}
use Rattle.hs_base.specs.declared.mission.Value.{Value}
use Rattle.hs_base.specs.declared.net.Bound.{Bound}
use Rattle.hs_base.specs.declared.range.Range.{Range}
use Rattle.search_tree.specs.Begun.{Begun, number}
use Rattle.search_tree.specs.Partial.{Partial, cells, held_at, held_by, row}
use Rattle.search_tree.specs.PartialBounds.{backing_bounds, last_stop}
use Rattle.search_tree.specs.Parts.{do_part, gap_cell, joined_cell}
use Rattle.search_tree.specs.declared.held.Cell.{Cell}
use Rattle.search_tree.specs.declared.held.Held.{Held}
use Rattle.search_tree.specs.declared.part.Part.{Part}
use Rattle.search_tree.specs.declared.part.Part.TheVariants.{Deferred, Finished, Followed, Inserted, Joined, MetGoal, Supported}

-- the tick of the next horizon
abbrev pub tick_of : Mission → Begun → ℤ
tick_of m b = unwrap_or (option_map (λ (h : Horizon). h.tick) (slice_get m.horizons (length b.base))) (pos 0)

-- a token lasts as long as its value may
abbrev pub lasting : Held → Range → List Bound
lasting x r = bound x.stop x.start (neg_ℤ r.low) ∷ cond (int_lt r.high LAST) (bound x.start x.stop r.high ∷ []) []

-- a token that starts before the tick ends by LAST: its length may imply that
abbrev pub until_last : ℤ → Held → Range → List Bound
until_last tick x r = cond (int_lt r.high LAST && int_le (tick -ℤ pos 1 +ℤ r.high) LAST) [] (bound 0 x.stop LAST ∷ [])

-- a token ends at `since` or later: its length may imply that
abbrev pub from_since : ℤ → Held → Range → List Bound
from_since since x r = cond (int_le since r.low) [] (bound x.stop 0 (neg_ℤ since) ∷ [])

-- a token that starts before the tick lasts as long as its value may, and ends within `since` and LAST
abbrev pub lasting_within : ℤ → ℤ → Held → Range → List Bound
lasting_within tick since x r = lasting x r ++ until_last tick x r ++ from_since since x r

-- a new token behind the point x starts before the horizon, lasts as long as its value may and ends within `since`
-- and LAST, and a gap ends no earlier than it begins
abbrev pub kept_cell : Mission → ℤ → ℤ → ℕ → Cell → Option ℕ → List Bound
kept_cell m tick since x c next =
    (bound 0 c.held.start (tick -ℤ pos 1) ∷ []) ++ cond c.joined [] (bound c.held.start x (pos 0) ∷ [])
    ++ on_some (value_of m c.held.kind) (λ (v : Value). lasting_within tick since c.held v.lasts) ++ on_some next (λ y. bound y c.held.stop (pos 0) ∷ [])

-- the bounds below LAST: points that stand in 0 to LAST keep the others
abbrev pub narrow : List Bound → List Bound
narrow bs = filter (λ (b : Bound). int_lt b.most LAST) bs

-- a goal's token starts and stops in the goal's ranges
abbrev pub goal_kept : Goal → Held → List Bound
goal_kept g x = apart x.start 0 g.start ++ apart x.stop 0 g.stop

-- the start of the token of that place
abbrev pub start_from : List Cell → ℕ → Option ℕ
start_from cs i = option_map (λ (c : Cell). c.held.start) (slice_get cs i)

abbrev pub kept_bounds : Mission → Begun → Partial → Part → List Bound
kept_bounds m b p (Inserted v i value) = kept_cell m (tick_of m b) b.since (held_at p v.0 i).stop (gap_cell p v.0 value.0) (start_from (cells (row p v.0)) (suc i))
kept_bounds m b p (Followed v i value) = kept_cell m (tick_of m b) b.since (held_at p v.0 i).stop (joined_cell p v.0 i value.0) (start_from (cells (row p v.0)) (suc i))
kept_bounds m b p (Joined v i) = together (held_at p v.0 (suc i)).start (held_at p v.0 i).stop
kept_bounds m b p (Finished v) = bound (last_stop 0 (cells (row p v.0))) 0 (neg_ℤ (tick_of m b +ℤ pos 1)) ∷ []
kept_bounds m b p (Supported t i by) = narrow (backing_bounds m (record { token = held_by p t; need = i; by = held_by p by }))
kept_bounds m b p (MetGoal g by) = narrow (on_some (slice_get (goals_of m (number b)) g) (λ (goal : Goal). goal_kept goal (held_by p by)))
kept_bounds m b p (Deferred t i) = []

-- those of parts that are done in order
abbrev pub kept_of : Mission → Begun → Partial → List Part → List Bound
kept_of m b p [] = []
kept_of m b p (x ∷ xs) = kept_bounds m b p x ++ kept_of m b (do_part p x) xs
