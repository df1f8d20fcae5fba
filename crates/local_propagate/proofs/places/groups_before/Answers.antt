use Rattle.std.proofs.Common.{◌≡◌, [], ap, sym, ◌∙◌, arith, get_or, length, take, pos, refl, w64, FitsSigned, to_z, of_z}
use Rattle.std.proofs.lemmas.Int.{ints, to_z-of_z}
use Rattle.std.proofs.lemmas.List.{length-map}
use Rattle.hs_base.specs.Schedule.{bound}
use Rattle.hs_base.specs.declared.net.Bound.{Bound}
use Rattle.local_propagate.specs.Joined.{leaders_of, place_of, Joins, before_of}
use Rattle.local_propagate.specs.declared.neighbours.Neighbour.{Neighbour}
use Rattle.local_propagate.proofs.JoinedLemmas.{edge_at, replicate_is_map, list_next, stands_at}
use Rattle.local_propagate.proofs.places.groups_before.Goals as goal

pub loop-edge-init : goal.loop-edge-init
loop-edge-init c = c.in_ok-before.ensures ∙ replicate_is_map [] c.len.result (leaders_of c.args.net.now.groups) (length-map c.args.net.now.groups (λ g. g.leader.0) ∙ sym c.len.ensures)

pub bounds-places-edge : goal.bounds-places-edge
bounds-places-edge c = c.requires.places.within _ (edge_at c.args.net.now _ _ _ c.requires.joined c.as_slice-edges.ensures c.loop-edge-test.true).from

pub bounds-places-edge-in-loop-edge : goal.bounds-places-edge-in-loop-edge
bounds-places-edge-in-loop-edge c = c.requires.places.within _ (edge_at c.args.net.now _ _ _ c.requires.joined c.as_slice-edges.ensures c.loop-edge-test.true).to

pub add-requires : goal.add-requires
add-requires c =
    let leaders = leaders_of c.args.net.now.groups in
    let edges = c.as_slice-edges.result.now in
    let e : Joins leaders (get_or edges c.loop-edge.edge-index (bound 0 0 (pos 0))) = edge_at c.args.net.now edges c.loop-edge.edge-index (bound 0 0 (pos 0)) c.requires.joined c.as_slice-edges.ensures c.loop-edge-test.true in
    let long = ap length c.loop-edge.invariant in
    omega (arith, long, length-map leaders (before_of leaders (take c.loop-edge.edge-index edges)), c.requires.places.each (get_or edges c.loop-edge.edge-index (bound 0 0 (pos 0))).to.0 e.to, (stands_at leaders (get_or edges c.loop-edge.edge-index (bound 0 0 (pos 0))).to.0 c.requires.joined.leaders e.to).within)

pub loop-edge-preserved : goal.loop-edge-preserved
loop-edge-preserved c =
    let leaders = leaders_of c.args.net.now.groups in
    let edges = c.as_slice-edges.result.now in
    let d : Bound = bound 0 0 (pos 0) in
    let e : Joins leaders (get_or edges c.loop-edge.edge-index d) = edge_at c.args.net.now edges c.loop-edge.edge-index d c.requires.joined c.as_slice-edges.ensures c.loop-edge-test.true in
    let fits : FitsSigned w64 (get_or edges c.loop-edge.edge-index d).most = omega (arith, ints, e.low, e.high) in
    let n : Neighbour = record { group = get_or c.args.places.now (get_or edges c.loop-edge.edge-index d).from.0 0; most = to_z w64 (of_z w64 (get_or edges c.loop-edge.edge-index d).most) } in
    let is_n : n ≡ record { group = place_of leaders (get_or edges c.loop-edge.edge-index d).from.0; most = (get_or edges c.loop-edge.edge-index d).most } = rw (to_z-of_z w64 (get_or edges c.loop-edge.edge-index d).most fits, c.requires.places.each (get_or edges c.loop-edge.edge-index d).from.0 e.from) refl in
    c.in_ok-add.ensures.ok ∙ list_next leaders (λ (z : Bound). z.to.0) (λ (z : Bound). record { group = place_of leaders z.from.0; most = z.most }) edges c.loop-edge.edge-index d c.requires.joined.leaders c.loop-edge-test.true e.to
    c.loop-edge.before _ n c.loop-edge.invariant (c.requires.places.each _ e.to) is_n
