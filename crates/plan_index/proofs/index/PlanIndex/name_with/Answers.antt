use Rattle.std.proofs.Common.{◌≡◌, ◌+◌, ◌-◌, List, map, slice_get, Some, sym, ap, ◌∙◌, arith}
use Rattle.hs_base.specs.declared.mission.Kind.{Kind}
use Rattle.hs_base.specs.Points.{horizon, refs_after}
use Rattle.plan_index.specs.Contents.{Contents, end_of}
use Rattle.plan_index.proofs.IndexLemmas.{points_counted, point_of_horizon, point_of_end}
use Rattle.plan_index.proofs.index.PlanIndex.name_with.Goals as goal

pub overflow_cast-result : goal.overflow_cast-result
overflow_cast-result c = omega (arith, points_counted c.self.inside.entries c.self.invariant, c.self.invariant.small, c.len.ensures)

pub overflow_add-result : goal.overflow_add-result
overflow_add-result c = omega (arith, points_counted c.self.inside.entries c.self.invariant, c.self.invariant.small, c.len.ensures)

pub returns-then-number-points-2 : goal.returns-then-number-points-2
returns-then-number-points-2 c =
    let many : c.len.result ≡ c.args.self.now.horizons = omega (arith, c.len.ensures, ap (λ (x : Contents). x.horizons) c.self.view_is) in
    ap (λ n. Some (horizon (n + 1))) many
    ∙ sym (point_of_horizon c.args.self.now c.args.extension.now c.args.point.0 (omega (arith, c.if-number-points-2.true, c.points-points.ensures)))

pub returns : goal.returns
returns c =
    let i = c.args.point.0 - c.points-points.result - 1 in
    c.new_end.ensures ∙ ap (λ (ts : List Kind). slice_get (map end_of (refs_after c.args.self.now.tokens ts)) i) c.as_slice.ensures
    ∙ sym (point_of_end c.args.self.now c.args.extension.now c.args.point.0 i (omega (arith, c.if-number-points.false, c.if-number-points-2.false, c.points-points.ensures)))
