-- Groups among some points of a network.
use Rattle.std.specs.Prelude.{ℕ, Bool, not, ◌&&◌, ◌||◌, nat_eq, List, map, filter}
use Rattle.std.specs.List.{list_all}
use Rattle.hs_base.specs.declared.net.Member.{Member}
use Rattle.hs_base.specs.declared.net.Group.{Group}
use Rattle.hs_base.specs.Reduced.{Table, are_rigid, leads_over}

-- the point is not rigid with point 0
abbrev pub is_loose : Table → ℕ → Bool
is_loose d p = not (are_rigid d 0 p)

-- p comes before each of the points that are rigid with it
abbrev pub leads_among : Table → List ℕ → ℕ → Bool
leads_among d points p = list_all (λ q. not (are_rigid d p q) || leads_over d p q) points

-- the points that are rigid with p, with their offsets
abbrev pub members_among : Table → List ℕ → ℕ → List Member
members_among d points p = map (λ q. record { point = record { 0 = q }; offset = d p q }) (filter (λ q. are_rigid d p q && not (nat_eq p q)) points)

-- their group, which p leads
abbrev pub group_among : Table → List ℕ → ℕ → Group
group_among d points p = record { leader = record { 0 = p }; members = members_among d points p }

-- the groups of those points of a list that lead theirs among the points
abbrev pub groups_among : Table → List ℕ → List ℕ → List Group
groups_among d points ps = map (group_among d points) (filter (leads_among d points) ps)
