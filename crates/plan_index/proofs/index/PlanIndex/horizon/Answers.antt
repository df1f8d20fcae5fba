use Rattle.std.proofs.Common.{sym, ap, arith}
use Rattle.hs_base.specs.Points.{horizon, place_of}
use Rattle.plan_index.specs.Contents.{Contents}
use Rattle.plan_index.proofs.IndexLemmas.{horizon_marked, horizon_unmarked}
use Rattle.plan_index.proofs.index.PlanIndex.horizon.Goals as goal

pub returns-in-Some : goal.returns-in-Some
returns-in-Some c =
    let k = c.args.number in
    let there = horizon_marked c.self.inside.entries k c.mark.result c.in-Some.point c.self.invariant c.mark.ensures.some c.mark.ensures.none c.in-Some.is in
    omega (arith, there, ap (λ (x : Contents). place_of (horizon k) x.points) (sym c.self.view_is))

pub returns-in-None : goal.returns-in-None
returns-in-None c =
    let k = c.args.number in
    let none = horizon_unmarked c.self.inside.entries k c.mark.result c.self.invariant c.mark.ensures.some c.in-None.is in
    omega (arith, c.len.ensures, none, ap (λ (x : Contents). place_of (horizon k) x.points) (sym c.self.view_is))
