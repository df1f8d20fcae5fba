use Rattle.std.proofs.Common.{◌≡◌, ◌∙◌, ◌++◌, ◌∷◌, [], ◌<◌, cond, to_z, of_z, w64, sym, ap, arith, get_or, take, map, Bool, ℤ, List, length, append_assoc}
use Rattle.std.proofs.lemmas.Int.{ints}
use Rattle.std.specs.Prelude.{filter}
use Rattle.hs_base.specs.declared.net.Bound.{Bound}
use Rattle.hs_base.specs.Schedule.{bound}
use Rattle.hs_base.specs.Reduced.{is_kept}
use Rattle.stn_distance.specs.Distances.{weight}
use Rattle.edge_filter.specs.declared.side.Side.TheVariants.{Incoming, Outgoing}
use Rattle.edge_filter.specs.Marks.{rows_in}
use Rattle.edge_filter.proofs.MarkLemmas.{leaders_below, row_long, marks_tell, edges_more}
use Rattle.edge_filter.proofs.filter.push_edges.Goals as goal

pub at-most-requires-clause-p : goal.at-most-requires-clause-p
at-most-requires-clause-p c = leaders_below c.args.dist.now c.args.leaders.now c.requires.leaders c.args.i 0 c.requires.place

pub at-most-requires-clause-q : goal.at-most-requires-clause-q
at-most-requires-clause-q c = leaders_below c.args.dist.now c.args.leaders.now c.requires.leaders c.loop-j.j 0 (omega arith)

pub is_marked-requires-clause-column : goal.is_marked-requires-clause-column
is_marked-requires-clause-column c = let e = row_long Incoming (weight c.args.dist.now) c.args.leaders.now c.args.incoming.now c.requires.incoming in omega arith

pub is_marked-requires-clause-row : goal.is_marked-requires-clause-row
is_marked-requires-clause-row c = let e = row_long Outgoing (weight c.args.dist.now) c.args.leaders.now c.args.outgoing.now c.requires.outgoing in let l = c.requires.place in omega arith

pub loop-j-preserved : goal.loop-j-preserved
loop-j-preserved c =
    let d = weight c.args.dist.now in let ls = c.args.leaders.now in let i = c.args.i in let j = c.loop-j.j in
    let a = get_or ls i 0 in let x = get_or ls j 0 in let before = c.loop-j.edges.items in let initial = c.args.edges.now.items in
    let near = c.at-most.ensures.near in let low = near.0 in let high = near.1 in
    let plain : to_z w64 (of_z w64 c.at-most.result) ≡ c.at-most.result = omega (arith, ints) in
    let most : to_z w64 (of_z w64 c.at-most.result) ≡ d a x = plain ∙ c.at-most.ensures.weight in
    let lj : j < length ls = omega arith in
    let told : c.is_marked.result ≡ is_kept d ls a x = c.is_marked.ensures ∙ marks_tell d ls (rows_in c.args.incoming.now) (rows_in c.args.outgoing.now) i j c.requires.place lj c.requires.incoming c.requires.outgoing in
    let kept = is_kept d ls a x in
    c.in_ok-push_if.ensures ∙ ap (λ (b : Bool). before ++ cond b (bound a x (to_z w64 (of_z w64 c.at-most.result)) ∷ []) []) told
    ∙ ap (λ (z : ℤ). before ++ cond kept (bound a x z ∷ []) []) most
    ∙ ap (λ (es : List Bound). es ++ cond kept (bound a x (d a x) ∷ []) []) c.loop-j.invariant
    ∙ append_assoc initial (map (λ e. bound a e (d a e)) (filter (is_kept d ls a) (take j ls))) (cond kept (bound a x (d a x) ∷ []) [])
    ∙ ap (λ (es : List Bound). initial ++ es) (sym (edges_more d ls a j lj))
