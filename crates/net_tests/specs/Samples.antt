-- A small network on which windows and dispatching are tested.
use Rattle.std.specs.Prelude.{pos, negsuc, List, [], ◌∷◌}
use Rattle.hs_base.specs.declared.net.Bound.{Bound}
use Rattle.hs_base.specs.declared.net.Group.{Group}
use Rattle.hs_base.specs.declared.net.Net.{Net}
use Rattle.hs_base.specs.Schedule.{bound}

-- point 1 stands 1 to 5 after Z, and points 2 and 3 together 2 to 3 after point 1
abbrev pub chain_groups : List Group
chain_groups =
    record { leader = record { 0 = 0 }; members = [] } ∷ record { leader = record { 0 = 1 }; members = [] }
    ∷ record { leader = record { 0 = 2 }; members = record { point = record { 0 = 3 }; offset = pos 0 } ∷ [] } ∷ []

abbrev pub chain_edges : List Bound
chain_edges = bound 0 1 (pos 5) ∷ bound 1 0 (negsuc 0) ∷ bound 1 2 (pos 3) ∷ bound 2 1 (negsuc 1) ∷ []

abbrev pub chain : Net
chain = record { groups = chain_groups; edges = chain_edges }
