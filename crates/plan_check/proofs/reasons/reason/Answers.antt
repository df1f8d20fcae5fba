use Rattle.std.proofs.Common.{◌≡◌, ◌<◌, ◌^◌, ℕ, List, sym, ap, ◌∙◌, subst, arith}
use Rattle.std.specs.Prelude.{IfOk}
use Rattle.hs_base.specs.declared.mission.Mission.{Mission}
use Rattle.hs_base.specs.declared.net.Bound.{Bound}
use Rattle.hs_base.specs.declared.plan.Plan.{Plan}
use Rattle.hs_base.specs.Bounds.{bounds_of}
use Rattle.hs_base.specs.Points.{count}
use Rattle.stn_distance.specs.Chains.{IsWhy}
use Rattle.token_net.specs.Conditions.{IsWithin}
use Rattle.plan_check.proofs.CheckLemmas.{bound_in_range, why_below}
use Rattle.plan_check.proofs.WithinLemmas.{few_points, within}
use Rattle.plan_check.proofs.reasons.reason.Goals as goal

pub bounds-requires-clause-small : goal.bounds-requires-clause-small
bounds-requires-clause-small c =
    let k = c.plan-listed.ensures.checked in
    let few = few_points c.args.plan.now.mission k.mission c.args.plan.now.plan.extensions k.rules in
    subst (λ (p : Plan). count p.extensions < 2 ^ 32) (sym c.plan-listed.ensures.plan) (omega (arith, few))

pub bounds-requires-clause-within : goal.bounds-requires-clause-within
bounds-requires-clause-within c =
    let k = c.plan-listed.ensures.checked in
    subst (λ (m : Mission). IsWithin m c.plan-listed.result.now.extensions) (sym c.mission.ensures.mission)
    (subst (λ (p : Plan). IsWithin c.args.plan.now.mission p.extensions) (sym c.plan-listed.ensures.plan) (within c.args.plan.now.mission k.mission c.args.plan.now.plan.extensions k.rules))

pub points-requires : goal.points-requires
points-requires c =
    let k = c.plan-listed.ensures.checked in
    let few = few_points c.args.plan.now.mission k.mission c.args.plan.now.plan.extensions k.rules in
    subst (λ (p : Plan). count p.extensions < 2 ^ 32) (sym c.plan-listed.ensures.plan) (omega (arith, few))

pub path-requires-clause-few : goal.path-requires-clause-few
path-requires-clause-few c =
    let k = c.plan-listed.ensures.checked in
    let few = few_points c.args.plan.now.mission k.mission c.args.plan.now.plan.extensions k.rules in
    let size : c.points.result ≡ count c.args.plan.now.plan.extensions = c.points.ensures ∙ ap (λ (p : Plan). count p.extensions) c.plan-listed.ensures.plan in
    (omega (arith, size), omega (arith, few, size))

pub path-requires-clause-range : goal.path-requires-clause-range
path-requires-clause-range c i d below =
    let k = c.plan-listed.ensures.checked in
    let m = c.args.plan.now.mission in
    let es = c.args.plan.now.plan.extensions in
    let size : c.points.result ≡ count es = c.points.ensures ∙ ap (λ (p : Plan). count p.extensions) c.plan-listed.ensures.plan in
    let is : c.as_slice.result.now ≡ bounds_of m es = c.as_slice.ensures ∙ c.in_ok-made.ensures ∙ ap (λ (p : Plan). bounds_of c.mission.result.now p.extensions) c.plan-listed.ensures.plan ∙ ap (λ (n : Mission). bounds_of n es) c.mission.ensures.mission in
    bound_in_range m es c.as_slice.result.now c.points.result i d k.mission k.rules is size below

pub returns-clause-points : goal.returns-clause-points
returns-clause-points c =
    let k = c.plan-listed.ensures.checked in
    let m = c.args.plan.now.mission in
    let es = c.args.plan.now.plan.extensions in
    let size : c.points.result ≡ count es = c.points.ensures ∙ ap (λ (p : Plan). count p.extensions) c.plan-listed.ensures.plan in
    let is : c.as_slice.result.now ≡ bounds_of m es = c.as_slice.ensures ∙ c.in_ok-made.ensures ∙ ap (λ (p : Plan). bounds_of c.mission.result.now p.extensions) c.plan-listed.ensures.plan ∙ ap (λ (n : Mission). bounds_of n es) c.mission.ensures.mission in
    why_below m es c.args.bound c.path.result k.mission k.rules
    (subst (λ (l : List Bound). IfOk c.path.result (IsWhy (count es) l c.args.bound)) is (subst (λ (n : ℕ). IfOk c.path.result (IsWhy n c.as_slice.result.now c.args.bound)) size c.path.ensures.why))
