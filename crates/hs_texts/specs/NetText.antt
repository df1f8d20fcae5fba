-- The text of a network.
use Rattle.std.specs.Prelude.{ℕ, List, ◌++◌, length, flat_map, codes}
use Rattle.std.specs.Fmt.{decimal, signed_decimal}
use Rattle.hs_base.specs.declared.net.Bound.{Bound}
use Rattle.hs_base.specs.declared.plan.Extension.{Extension}
use Rattle.hs_base.specs.declared.net.Group.{Group}
use Rattle.hs_base.specs.declared.net.Member.{Member}
use Rattle.hs_base.specs.declared.mission.Mission.{Mission}
use Rattle.hs_base.specs.declared.net.Net.{Net}
use Rattle.hs_base.specs.Points.{Point, points_of}
use Rattle.hs_texts.specs.Written.{point_in}

-- the numbers of groups and edges: `groups 7 edges 14`
abbrev pub counts_text : Net → List ℕ
counts_text net = codes "groups " ++ decimal (length net.groups) ++ codes " edges " ++ decimal (length net.edges)

-- a member of a group, where ps are the points of a plan
abbrev pub member_line : Mission → List Point → Member → List ℕ
member_line m ps p = codes "member " ++ point_in m ps p.point.0 ++ codes " " ++ signed_decimal p.offset ++ codes "\n"

-- a group with its members
abbrev pub group_lines : Mission → List Point → Group → List ℕ
group_lines m ps g = codes "group " ++ point_in m ps g.leader.0 ++ codes "\n" ++ flat_map (member_line m ps) g.members

-- an edge
abbrev pub edge_line : Mission → List Point → Bound → List ℕ
edge_line m ps b = codes "edge " ++ point_in m ps b.from.0 ++ codes " " ++ point_in m ps b.to.0 ++ codes " " ++ signed_decimal b.most ++ codes "\n"

-- the text of a plan's network
abbrev pub net_text : Mission → List Extension → Net → List ℕ
net_text m es net =
    codes "hsts net 1\n" ++ counts_text net ++ codes "\n"
    ++ flat_map (group_lines m (points_of es)) net.groups
    ++ flat_map (edge_line m (points_of es)) net.edges
    ++ codes "end\n"
