use Rattle.std.proofs.Common.{◌≡◌, List, [], ◌++◌, ap, sym, subst, ◌∙◌, arith}
use Rattle.hs_base.specs.declared.net.Bound.{Bound}
use Rattle.hs_base.specs.Cycles.{IsNegativeCycle}
use Rattle.hs_base.specs.Points.{count}
use Rattle.hs_base.specs.Bounds.{bounds_of}
use Rattle.stn_distance.specs.Broken.{IfCycle}
use Rattle.stn_distance.specs.declared.broken.Broken.{Broken}
use Rattle.stn_trail.specs.Held.{Held, bounds_of as held_bounds, added, points_of, grown}
use Rattle.plan_laws.proofs.FaultLemmas.{no_cycle}
use Rattle.plan_check.proofs.WithinLemmas.{few_points, within}
use Rattle.plan_check.proofs.CheckLemmas.{bound_in_range}
use Rattle.plan_check.proofs.TrailLemmas.{fresh_points, fresh_bounds}
use Rattle.plan_check.proofs.schedule.trail_of.Goals as goal

pub bounds-requires-clause-small : goal.bounds-requires-clause-small
bounds-requires-clause-small c = let few = few_points c.args.mission.now c.requires.mission c.args.plan.now.extensions c.requires.rules in omega (arith, few)

pub bounds-requires-clause-within : goal.bounds-requires-clause-within
bounds-requires-clause-within c = within c.args.mission.now c.requires.mission c.args.plan.now.extensions c.requires.rules

pub points-requires : goal.points-requires
points-requires c = let few = few_points c.args.mission.now c.requires.mission c.args.plan.now.extensions c.requires.rules in omega (arith, few)

pub begin-requires : goal.begin-requires
begin-requires c =
    let few = few_points c.args.mission.now c.requires.mission c.args.plan.now.extensions c.requires.rules in
    let size = c.points.ensures in
    (omega (arith, size), omega (arith, few, size))

pub add_bounds-requires : goal.add_bounds-requires
add_bounds-requires c = record {
  range = λ k d below. bound_in_range c.args.mission.now c.args.plan.now.extensions c.as_slice.result.now (points_of c.in_ok-trail.trail) k d c.requires.mission c.requires.rules (c.as_slice.ensures ∙ c.in_ok-made.ensures) (fresh_points c.points.result c.in_ok-trail.trail c.in_ok-trail.ensures.fresh ∙ c.points.ensures) below;
}

pub unreachable-requires : goal.unreachable-requires
unreachable-requires c =
    let all : held_bounds c.in_ok-trail.trail ++ c.as_slice.result.now ≡ bounds_of c.args.mission.now c.args.plan.now.extensions =
    ap (λ (l : List Bound). l ++ c.as_slice.result.now) (fresh_bounds c.points.result c.in_ok-trail.trail c.in_ok-trail.ensures.fresh) ∙ c.as_slice.ensures ∙ c.in_ok-made.ensures in
    let told : IsNegativeCycle (held_bounds c.in_ok-trail.trail ++ c.as_slice.result.now) c.in-Err-Cycle.field-0-0 =
    subst (λ (b : Broken). IfCycle b (IsNegativeCycle (held_bounds c.in_ok-trail.trail ++ c.as_slice.result.now))) c.in-Err-Cycle.field-0-is c.in-Err-Cycle.ensures.cycle in
    no_cycle (bounds_of c.args.mission.now c.args.plan.now.extensions) c.in-Err-Cycle.field-0-0 c.requires.schedule (subst (λ (l : List Bound). IsNegativeCycle l c.in-Err-Cycle.field-0-0) all told) c.requires.meets
