use Rattle.stn_distance.proofs.CauseLemmas.{IsStart-zero}
use Rattle.stn_distance.proofs.search.solve.Goals as goal

pub solve_from-requires-clause-start : goal.solve_from-requires-clause-start
solve_from-requires-clause-start c =
    let e = c.in_ok-start.ensures.items_if_clones_equal (λ _ x. x) in
    rw e (IsStart-zero c.args.n)
