-- The bounds of a partial plan.
use Rattle.std.specs.Prelude.{List, Option, [], cond, flat_map, neg_ℤ, negsuc, pos, slice_get, ℕ, ◌++◌, ◌∷◌}
use Rattle.hs_base.specs.Bounds.{apart, bounds_of, fixed_bounds, goals_of, horizon_bounds, on_some, point_bounds, relation_bounds, since_bounds, together}
use Rattle.hs_base.specs.Needs.{choice_by, needs_of}
use Rattle.hs_base.specs.Points.{count, value_of}
use Rattle.hs_base.specs.Ranges.{whole}
use Rattle.hs_base.specs.Schedule.{Meets, Schedule, bound}
use Rattle.hs_base.specs.declared.mission.Choice.{Choice}
use Rattle.hs_base.specs.declared.mission.Goal.{Goal}
use Rattle.hs_base.specs.declared.mission.Mission.{Mission}
use Rattle.hs_base.specs.declared.mission.Need.{Need}
use Rattle.hs_base.specs.declared.mission.Value.{Value}
use Rattle.hs_base.specs.declared.net.Bound.{Bound}
use Rattle.search_tree.specs.Begun.{Begun, newest, number, stub}
use Rattle.search_tree.specs.Partial.{Partial, Row, cells}
use Rattle.search_tree.specs.declared.backing.Backing.{Backing}
use Rattle.search_tree.specs.declared.held.Cell.{Cell}
use Rattle.search_tree.specs.declared.held.Held.{Held}

-- a new token has its points within all times, lasts as long as its value may, starts before the horizon and
-- ends no earlier than `since`
abbrev pub token_bounds : Mission → Begun → Held → List Bound
token_bounds m b x =
    apart x.start 0 whole ++ apart x.stop 0 whole ++ on_some (value_of m x.kind) (λ (v : Value). apart x.stop x.start v.lasts)
    ++ bound (newest b) x.start (negsuc 0) ∷ bound x.stop 0 (neg_ℤ b.since) ∷ []

-- joined tokens meet in one point, and a gap ends no earlier than it begins
abbrev pub link_bounds : ℕ → List Cell → List Bound
link_bounds before [] = []
link_bounds before (c ∷ cs) = cond c.joined (together c.held.start before) (bound c.held.start before (pos 0) ∷ []) ++ link_bounds c.held.stop cs

-- the end of the last token, where `before` is the end of the one before them
abbrev pub last_stop : ℕ → List Cell → ℕ
last_stop before [] = before
last_stop before (c ∷ cs) = last_stop c.held.stop cs

-- a finished timeline ends after the horizon
abbrev pub finish_bounds : Begun → Row → List Bound
finish_bounds b r = cond r.finished (bound (last_stop 0 (cells r)) (newest b) (negsuc 0) ∷ []) []

abbrev pub row_bounds : Mission → Begun → Row → List Bound
row_bounds m b r = flat_map (λ c. token_bounds m b c.held) r.added ++ link_bounds 0 (cells r) ++ finish_bounds b r

-- a support keeps the relation of the choice that its token is for
abbrev pub backing_bounds : Mission → Backing → List Bound
backing_bounds m s =
    on_some (slice_get (needs_of m s.token.kind) s.need) (λ (n : Need). on_some (choice_by n s.by.kind) (λ (c : Choice). relation_bounds c.relation s.token.start s.token.stop s.by.start s.by.stop))

-- a goal's token starts and stops in the goal's ranges
abbrev pub goals_met : List Goal → List (Option Held) → List Bound
goals_met [] os = []
goals_met (g ∷ gs) [] = []
goals_met (g ∷ gs) (o ∷ os) = on_some o (λ x. apart x.start 0 g.start ++ apart x.stop 0 g.stop) ++ goals_met gs os

-- the bounds of the plan that is extended, and those that are known without a new token
abbrev pub begun_bounds : Mission → Begun → List Bound
begun_bounds m b =
    bounds_of m b.base ++ horizon_bounds m (stub b) (number b) ++ point_bounds (count b.base) 1 ++ fixed_bounds b.fixed ++ since_bounds (stub b) b.since

abbrev pub partial_bounds : Mission → Begun → Partial → List Bound
partial_bounds m b p =
    begun_bounds m b ++ flat_map (row_bounds m b) p.rows ++ flat_map (backing_bounds m) p.supports ++ goals_met (goals_of m (number b)) p.goals

-- where the search begins, no more is bounded than this, but for what holds of itself
abbrev pub root_bounds : Mission → Begun → Partial → List Bound
root_bounds m b p = begun_bounds m b ++ flat_map (λ (r : Row). flat_map (λ (c : Cell). token_bounds m b c.held) r.added) p.rows

pub record HasSchedule (m : Mission) (b : Begun) (p : Partial) : Type 0 where
  pub schedule : Schedule
  pub meets : Meets (partial_bounds m b p) schedule
