use Rattle.std.proofs.Common.{◌+◌, ◌∷◌, [], ap, arith, length, length-append, subst, sym, ◌∙◌}
use Rattle.search_tree.specs.Begun.{begun_of}
use Rattle.search_tree.specs.Search.{FindsWhere, FindsWhereAt}
use Rattle.search_tree.specs.Tree.{plan}
use Rattle.plan_check.specs.Seen.{seen}
use Rattle.plan_search.proofs.search_loop.search_where.Goals as goal

pub into_last-requires : goal.into_last-requires
into_last-requires g c = λ none.
    let p = c.in-Ok.ensures.planned in
    let base = (begun_of (seen c.args.snapshot.now)).base in
    omega (arith, ap length (sym p.is ∙ none), length-append base (p.extension ∷ []))

pub returns-in-Ok-clause-found : goal.returns-in-Ok-clause-found
returns-in-Ok-clause-found g c =
    let m = c.args.snapshot.now.plan.mission in
    let b = begun_of (seen c.args.snapshot.now) in
    let p = c.in-Ok.ensures.planned in
    subst (λ e. FindsWhere (g.F.Filter.test c.args.filter.now) m b c.args.budget (plan e)) (sym (c.into_last.ensures b.base p.extension p.is)) p.found.finds

pub returns-in-Ok-clause-steps : goal.returns-in-Ok-clause-steps
returns-in-Ok-clause-steps g c =
    let m = c.args.snapshot.now.plan.mission in
    let b = begun_of (seen c.args.snapshot.now) in
    let p = c.in-Ok.ensures.planned in
    (p.found.nodes, subst (λ e. FindsWhereAt (g.F.Filter.test c.args.filter.now) m b p.found.nodes (plan e)) (sym (c.into_last.ensures b.base p.extension p.is)) p.found.leads, p.found.steps)
