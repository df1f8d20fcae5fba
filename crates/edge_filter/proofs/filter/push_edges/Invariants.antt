use Rattle.std.proofs.Common.{◌≡◌, ◌++◌, take, map, get_or}
use Rattle.std.specs.Prelude.{filter}
use Rattle.hs_base.specs.Schedule.{bound}
use Rattle.hs_base.specs.Reduced.{is_kept}
use Rattle.stn_distance.specs.Distances.{weight}
use Rattle.edge_filter.proofs.filter.push_edges.Given as goal

abbrev pub invariant-loop-j : goal.invariant-loop-j
invariant-loop-j l =
    l.edges.items ≡ l.initial.edges.items ++ map (λ e. bound (get_or l.leaders l.i 0) e (weight l.dist (get_or l.leaders l.i 0) e)) (filter (is_kept (weight l.dist) l.leaders (get_or l.leaders l.i 0)) (take l.j l.leaders))
