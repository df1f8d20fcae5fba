use Rattle.std.proofs.Common.{ap, ◌∙◌, arith}
use Rattle.plan_index.specs.Contents.{Contents}
use Rattle.timeline_db.proofs.DoingLemmas.{few_in}
use Rattle.timeline_db.proofs.db.Db.free_with.Goals as goal

pub overflow_add-points-2 : goal.overflow_add-points-2
overflow_add-points-2 c =
    let few = few_in c.self.inside c.self.invariant in
    let total = few.1 in
    let base = few.2 in
    omega (arith, c.horizons.ensures ∙ ap (λ (x : Contents). x.horizons) c.index-index.ensures)

pub overflow_add-points-3 : goal.overflow_add-points-3
overflow_add-points-3 c =
    let few = few_in c.self.inside c.self.invariant in
    let total = few.1 in
    let base = few.2 in
    omega (arith, c.horizons.ensures ∙ ap (λ (x : Contents). x.horizons) c.index-index.ensures)
