-- Which edges between leaders are kept, in rows of marks.
use Rattle.std.specs.Prelude.{◌≡◌, ℕ, Bool, false, List, [], map, get_or, Vec}
use Rattle.std.specs.declared.alloc.Global.{Global}
use Rattle.hs_base.specs.declared.net.Group.{Group}
use Rattle.hs_base.specs.Reduced.{Table, IsTableOf, leaders}
use Rattle.stn_distance.specs.Distances.{Distances, weight}
use Rattle.edge_filter.specs.declared.side.Side.{Side}
use Rattle.edge_filter.specs.Sides.{is_kept_on}

-- ls are the leaders of a network's groups, by its distances
pub record AreLeaders (d : Distances) (ls : List ℕ) : Type 0 where
  pub table : IsTableOf d.count d.bounds (weight d)
  pub are : ls ≡ leaders d.count (weight d)

-- the leaders of groups
abbrev pub leaders_in : List Group → List ℕ
leaders_in groups = map (λ g. g.leader.0) groups

-- the lists in vectors
abbrev pub rows_in : List (Vec Bool Global) → List (List Bool)
rows_in rows = map (λ row. row.items) rows

-- the mark in a row
abbrev pub mark_at : List (List Bool) → ℕ → ℕ → Bool
mark_at rows i j = get_or (get_or rows i []) j false

-- for each of some leaders, which of all edges on that side of it are kept
abbrev pub marks_on : Side → Table → List ℕ → List ℕ → List (List Bool)
marks_on side d ls some = map (λ a. map (is_kept_on side d ls a) ls) some
