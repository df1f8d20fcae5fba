-- Where the points of a plan stand in the partial plan whose extension it has.
use Rattle.std.specs.Prelude.{None, Option, Some, [], cond, nat_lt, slice_get, ℕ, ◌++◌, ◌∷◌}
use Rattle.hs_base.specs.Points.{Point, count, ending, horizon, origin, points_of}
use Rattle.hs_base.specs.declared.mission.Mission.{Mission}
use Rattle.search_tree.specs.Begun.{Begun, stub}
use Rattle.search_tree.specs.Extends.{extension}
use Rattle.search_tree.specs.Partial.{Partial, held_at}

-- the end of the token of that name
abbrev pub named_point : Partial → Option Point → ℕ
named_point p None = 0
named_point p (Some origin) = 0
named_point p (Some (horizon k)) = 0
named_point p (Some (ending v i)) = (held_at p v i).stop

-- points up to the new horizon keep their numbers; the others are ends of new tokens
abbrev pub node_point : Mission → Begun → Partial → ℕ → ℕ
node_point m b p x = cond (nat_lt x (count (stub b))) x (named_point p (slice_get (points_of (b.base ++ extension m b p ∷ [])) x))
