use Rattle.std.proofs.Common.{◌∙◌, sym, ap, arith}
use Rattle.hs_base.specs.Points.{place_of}
use Rattle.plan_index.specs.Contents.{Contents, end_of}
use Rattle.plan_index.proofs.IndexLemmas.{end_there, end_nowhere}
use Rattle.plan_index.proofs.index.PlanIndex.end.Goals as goal

pub returns-in-Some : goal.returns-in-Some
returns-in-Some c =
    let t = c.args.token in
    sym (ap (λ (x : Contents). place_of (end_of t) x.points) (sym c.self.view_is) ∙ end_there c.self.inside.entries t.sv.0 t.place c.in-Some.placed c.self.invariant (sym c.placed.ensures ∙ c.in-Some.is))

pub returns-in-None : goal.returns-in-None
returns-in-None c =
    let t = c.args.token in
    let none = end_nowhere c.self.inside.entries t.sv.0 t.place c.self.invariant (sym c.placed.ensures ∙ c.in-None.is) in
    omega (arith, c.len.ensures, none, ap (λ (x : Contents). place_of (end_of t) x.points) (sym c.self.view_is))
