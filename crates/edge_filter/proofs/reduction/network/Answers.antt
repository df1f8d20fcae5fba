use Rattle.std.proofs.Common.{◌≡◌, List, map, ap, ◌∙◌}
use Rattle.hs_base.specs.declared.net.Bound.{Bound}
use Rattle.hs_base.specs.declared.net.Group.{Group}
use Rattle.hs_base.specs.declared.net.Net.{Net}
use Rattle.hs_base.specs.Reduced.{IsReducedOf, leaders, group_of, reduced}
use Rattle.stn_distance.specs.Distances.{weight}
use Rattle.net_laws.proofs.ExactLemmas.{exact}
use Rattle.edge_filter.proofs.reduction.network.Goals as goal

pub returns : goal.returns
returns c =
    let dist = c.args.dist.now in
    let groups = c.in_ok-groups.groups in
    let edges = c.in_ok-edges.edges in
    let made : Net = record { groups = groups; edges = edges } in
    let is : made ≡ reduced dist.count (weight dist) =
    ap (λ (gs : List Group). record { groups = gs; edges = edges }) c.in_ok-groups.ensures
    ∙ ap (λ (es : List Bound). record { groups = map (group_of dist.count (weight dist)) (leaders dist.count (weight dist)); edges = es }) c.in_ok-edges.ensures in
    let whole : IsReducedOf dist.count dist.bounds made = record { table = weight dist; tight = c.points.ensures.table; is = is } in
    record { reduced = whole; exact = λ s. exact dist.count dist.bounds made whole s }
