use Rattle.std.proofs.Common.{length, ◌≡◌, ◌∙◌, ℕ, ℤ, List, take, sym, ap, arith}
use Rattle.std.specs.Prelude.{flat_map}
use Rattle.std.proofs.lemmas.List.{take_all}
use Rattle.hs_base.specs.Reduced.{leaders, edges_from}
use Rattle.stn_distance.specs.Distances.{weight}
use Rattle.edge_filter.specs.Marks.{leaders_in}
use Rattle.edge_filter.proofs.MarkLemmas.{leaders_below, leaders_in-groups}
use Rattle.edge_filter.proofs.filter.keep.Goals as goal

pub middles_of-requires-clause-leaders : goal.middles_of-requires-clause-leaders
middles_of-requires-clause-leaders c =
    let dv = c.args.dist.now in let d = weight dv in
    let are : c.in_ok-leaders.leaders.items ≡ leaders dv.count d = c.in_ok-leaders.ensures ∙ ap leaders_in (c.as_slice.ensures ∙ c.requires) ∙ leaders_in-groups dv.count d (leaders dv.count d) in
    leaders_below dv c.deref.result.now (record { table = c.points.ensures.table; are = c.deref.ensures.value ∙ are })

pub rows_on-requires-clause-leaders : goal.rows_on-requires-clause-leaders
rows_on-requires-clause-leaders c =
    let dv = c.args.dist.now in let d = weight dv in
    let are : c.in_ok-leaders.leaders.items ≡ leaders dv.count d = c.in_ok-leaders.ensures ∙ ap leaders_in (c.as_slice.ensures ∙ c.requires) ∙ leaders_in-groups dv.count d (leaders dv.count d) in
    record { table = c.points.ensures.table; are = c.deref-2.ensures.value ∙ are }

pub rows_on-requires-clause-middles : goal.rows_on-requires-clause-middles
rows_on-requires-clause-middles c = ap (λ (xs : List ℤ). length xs) c.deref-3.ensures.value ∙ c.in_ok-middles.ensures ∙ ap (λ (xs : List ℕ). length xs) (c.deref.ensures.value ∙ sym c.deref-2.ensures.value)

pub rows_on-requires-2-clause-leaders : goal.rows_on-requires-2-clause-leaders
rows_on-requires-2-clause-leaders c =
    let dv = c.args.dist.now in let d = weight dv in
    let are : c.in_ok-leaders.leaders.items ≡ leaders dv.count d = c.in_ok-leaders.ensures ∙ ap leaders_in (c.as_slice.ensures ∙ c.requires) ∙ leaders_in-groups dv.count d (leaders dv.count d) in
    record { table = c.points.ensures.table; are = c.deref-4.ensures.value ∙ are }

pub rows_on-requires-2-clause-middles : goal.rows_on-requires-2-clause-middles
rows_on-requires-2-clause-middles c = ap (λ (xs : List ℤ). length xs) c.deref-5.ensures.value ∙ c.in_ok-middles.ensures ∙ ap (λ (xs : List ℕ). length xs) (c.deref.ensures.value ∙ sym c.deref-4.ensures.value)

pub push_edges-requires-clause-leaders : goal.push_edges-requires-clause-leaders
push_edges-requires-clause-leaders c =
    let dv = c.args.dist.now in let d = weight dv in
    let are : c.in_ok-leaders.leaders.items ≡ leaders dv.count d = c.in_ok-leaders.ensures ∙ ap leaders_in (c.as_slice.ensures ∙ c.requires) ∙ leaders_in-groups dv.count d (leaders dv.count d) in
    record { table = c.points.ensures.table; are = c.deref-in-loop-i.ensures.value ∙ are }

pub returns : goal.returns
returns c =
    let dv = c.args.dist.now in let d = weight dv in
    let are : c.in_ok-leaders.leaders.items ≡ leaders dv.count d = c.in_ok-leaders.ensures ∙ ap leaders_in (c.as_slice.ensures ∙ c.requires) ∙ leaders_in-groups dv.count d (leaders dv.count d) in
    let held = c.in_ok-leaders.leaders.ok.0 in
    let whole : take c.loop-i.i c.in_ok-leaders.leaders.items ≡ c.in_ok-leaders.leaders.items = take_all c.loop-i.i c.in_ok-leaders.leaders.items (omega arith) in
    c.from_vec.ensures ∙ c.loop-i.invariant ∙ ap (flat_map (edges_from d c.in_ok-leaders.leaders.items)) whole ∙ ap (λ (ls : List ℕ). flat_map (edges_from d ls) ls) are
