use Rattle.std.proofs.Common.{◌≡◌, ℕ, ◌+◌, ◌<◌, List, [], ◌++◌, length, get_or, ap, sym, subst, ◌∙◌, arith}
use Rattle.hs_base.specs.declared.net.Bound.{Bound}
use Rattle.hs_base.specs.Cycles.{IsNegativeCycle}
use Rattle.hs_base.specs.Schedule.{Meets, time_of}
use Rattle.hs_base.specs.Points.{count}
use Rattle.hs_base.specs.Bounds.{bounds_of, new_bounds}
use Rattle.hs_base.specs.Checked.{joined, KeepsRules}
use Rattle.hs_base.proofs.RuleLemmas.{limits_kept, fixed_kept}
use Rattle.base_laws.proofs.ListLemmas.{EachAfter-push}
use Rattle.base_laws.proofs.PointLemmas.{count-push}
use Rattle.plan_index.specs.Contents.{Contents}
use Rattle.stn_distance.specs.Broken.{IfCycle}
use Rattle.stn_distance.specs.declared.broken.Broken.{Broken}
use Rattle.stn_trail.specs.Held.{bounds_of as held_bounds, points_of}
use Rattle.plan_check.proofs.WithinLemmas.{few_points, times_of_next}
use Rattle.plan_check.proofs.CheckLemmas.{bounds-push, next_in_range}
use Rattle.plan_check.proofs.schedule.check_schedule.Goals as goal

pub new_bounds-requires-clause-room : goal.new_bounds-requires-clause-room
new_bounds-requires-clause-room c = omega (arith, ap (λ (x : Contents). length x.points) c.requires.index, count-push c.args.plan.now.extensions c.args.extension.now)

pub new_bounds-requires-clause-small : goal.new_bounds-requires-clause-small
new_bounds-requires-clause-small c = let few = few_points c.args.mission.now c.requires.mission (joined c.args.plan.now.extensions c.args.extension.now) c.requires.rules in omega (arith, few, ap (λ (x : Contents). length x.points) c.requires.index)

pub new_bounds-requires-clause-times : goal.new_bounds-requires-clause-times
new_bounds-requires-clause-times c = λ k d below. times_of_next c.args.mission.now c.args.plan.now.extensions c.args.extension.now k d (EachAfter-push (KeepsRules c.args.mission.now) [] c.args.plan.now.extensions c.args.extension.now c.requires.rules).1 below

pub new_bounds-requires-clause-since : goal.new_bounds-requires-clause-since
new_bounds-requires-clause-since c = (fixed_kept (EachAfter-push (KeepsRules c.args.mission.now) [] c.args.plan.now.extensions c.args.extension.now c.requires.rules).1).since

pub overflow_cast-len : goal.overflow_cast-len
overflow_cast-len c =
    let most = (limits_kept (EachAfter-push (KeepsRules c.args.mission.now) [] c.args.plan.now.extensions c.args.extension.now c.requires.rules).1).tokens in
    omega (arith, most, c.len.ensures)

pub overflow_add-len : goal.overflow_add-len
overflow_add-len c =
    let most = (limits_kept (EachAfter-push (KeepsRules c.args.mission.now) [] c.args.plan.now.extensions c.args.extension.now c.requires.rules).1).tokens in
    omega (arith, most, c.len.ensures)

pub add_points-requires : goal.add_points-requires
add_points-requires c =
    let few = few_points c.args.mission.now c.requires.mission (joined c.args.plan.now.extensions c.args.extension.now) c.requires.rules in
    omega (arith, few, c.len.ensures, c.requires.trail.points, count-push c.args.plan.now.extensions c.args.extension.now)

pub add_bounds-requires : goal.add_bounds-requires
add_bounds-requires c =
    let es = c.args.plan.now.extensions in
    let e = c.args.extension.now in
    let size : points_of c.add_points.new.trail ≡ count (joined es e) = omega (arith, c.in_ok-add_points.ensures.points, c.len.ensures, c.requires.trail.points, count-push es e) in
    record { range = λ k d below. next_in_range c.args.mission.now es e c.as_slice.result.now (points_of c.add_points.new.trail) k d c.requires.mission c.requires.rules (c.as_slice.ensures ∙ c.in_ok-made.ensures es c.requires.index) size below }

pub returns-in-Ok-clause-trail : goal.returns-in-Ok-clause-trail
returns-in-Ok-clause-trail c =
    let m = c.args.mission.now in
    let es = c.args.plan.now.extensions in
    let e = c.args.extension.now in
    let new : c.as_slice.result.now ≡ new_bounds m es e = c.as_slice.ensures ∙ c.in_ok-made.ensures es c.requires.index in
    record {
      points = omega (arith, c.add_bounds.ensures.points, c.in_ok-add_points.ensures.points, c.len.ensures, c.requires.trail.points, count-push es e);
      bounds = c.in-Ok.ensures.bounds ∙ ap (λ (l : List Bound). l ++ c.as_slice.result.now) (c.in_ok-add_points.ensures.bounds ∙ c.requires.trail.bounds) ∙ ap (λ (l : List Bound). bounds_of m es ++ l) new ∙ sym (bounds-push m es e);
    }

pub returns-in-Ok-clause-checked : goal.returns-in-Ok-clause-checked
returns-in-Ok-clause-checked c =
    let m = c.args.mission.now in
    let es = c.args.plan.now.extensions in
    let e = c.args.extension.now in
    let new : c.as_slice.result.now ≡ new_bounds m es e = c.as_slice.ensures ∙ c.in_ok-made.ensures es c.requires.index in
    let bounds : held_bounds c.add_bounds.new.trail ≡ bounds_of m (joined es e) = c.in-Ok.ensures.bounds ∙ ap (λ (l : List Bound). l ++ c.as_slice.result.now) (c.in_ok-add_points.ensures.bounds ∙ c.requires.trail.bounds) ∙ ap (λ (l : List Bound). bounds_of m es ++ l) new ∙ sym (bounds-push m es e) in
    record {
      mission = c.requires.mission;
      schedule = time_of c.add_bounds.new.trail.times;
      meets = subst (λ (l : List Bound). Meets l (time_of c.add_bounds.new.trail.times)) bounds c.at.ensures.kept.times;
      rules = c.requires.rules;
    }

pub returns-in-Err-Cycle-clause-cycle : goal.returns-in-Err-Cycle-clause-cycle
returns-in-Err-Cycle-clause-cycle c =
    let m = c.args.mission.now in
    let es = c.args.plan.now.extensions in
    let e = c.args.extension.now in
    let new : c.as_slice.result.now ≡ new_bounds m es e = c.as_slice.ensures ∙ c.in_ok-made.ensures es c.requires.index in
    let all : held_bounds c.add_points.new.trail ++ c.as_slice.result.now ≡ bounds_of m (joined es e) = ap (λ (l : List Bound). l ++ c.as_slice.result.now) (c.in_ok-add_points.ensures.bounds ∙ c.requires.trail.bounds) ∙ ap (λ (l : List Bound). bounds_of m es ++ l) new ∙ sym (bounds-push m es e) in
    let told : IsNegativeCycle (held_bounds c.add_points.new.trail ++ c.as_slice.result.now) c.in-Err-Cycle.cycle =
    subst (λ (b : Broken). IfCycle b (IsNegativeCycle (held_bounds c.add_points.new.trail ++ c.as_slice.result.now))) c.in-Err-Cycle.field-0-is c.in-Err-Cycle.ensures.cycle in
    subst (λ (l : List Bound). IsNegativeCycle l c.in-Err-Cycle.cycle) all told
