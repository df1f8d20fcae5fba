-- The next of the points that are watched.
use Rattle.std.specs.Prelude.{◌≡◌, ◌⊎◌, ℕ, ◌<◌, ◌≤◌, List, ◌∷◌, length, map, Option, Some, None}
use Rattle.std.specs.List.{AllByRecursion}
use Rattle.hs_base.specs.declared.ids.PointId.{PointId}
use Rattle.sim_run.specs.declared.post.Post.{Post}
use Rattle.sim_run.specs.declared.watch.Watch.{Watch}

-- the number is below `from`, or comes no earlier than the point
abbrev pub IsBehind : ℕ → Option PointId → ℕ → Type 0
IsBehind from None x = x < from
IsBehind from (Some point) x = (x < from) ⊎ (point.0 ≤ x)

-- the point is the first of the points from that number on, or none is left there
pub record IsFirst (from : ℕ) (xs : List ℕ) (point : Option PointId) : Type 0 where
  pub behind : AllByRecursion (IsBehind from point) xs
  pub low : (p : PointId) → point ≡ Some p → from ≤ p.0

-- the points that are watched
abbrev pub watched_points : Watch → List ℕ
watched_points w = w.mark.0 ∷ map (λ (p : Post). p.end.0) w.posts.items

-- so many posts, none of which runs a script
pub record IsUnmanned (timelines : ℕ) (w : Watch) : Type 0 where
  pub many : length w.posts.items ≡ timelines
  pub none : AllByRecursion (λ (p : Post). p.script ≡ None) w.posts.items
