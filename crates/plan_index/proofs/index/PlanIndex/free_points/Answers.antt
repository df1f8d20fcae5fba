use Rattle.std.proofs.Common.{◌∙◌, ap, length, arith}
use Rattle.std.proofs.lemmas.List.{length-map}
use Rattle.plan_index.specs.Contents.{Contents}
use Rattle.plan_index.specs.Named.{named}
use Rattle.plan_index.proofs.IndexLemmas.{free_are}
use Rattle.plan_index.proofs.index.PlanIndex.free_points.Goals as goal

pub returns : goal.returns
returns c = λ es is.
    let points = ap (λ (x : Contents). length x.points) (c.self.view_is ∙ is) in
    let fixed = ap (λ (x : Contents). length x.fixed) (c.self.view_is ∙ is) in
    omega (arith, free_are es, points, fixed, length-map c.self.inside.entries.names.items named, c.len.ensures, c.len-2.ensures, c.saturating_sub.ensures)
