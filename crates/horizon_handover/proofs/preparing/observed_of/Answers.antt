use Rattle.std.proofs.Common.{◌≡◌, ◌++◌, [], ◌∷◌, List, Bool, length, ap, ◌∙◌, sym, subst, arith, map}
use Rattle.std.proofs.lemmas.List.FromFn.{map-range_with_len_more}
use Rattle.hs_base.specs.declared.mission.Mission.{Mission}
use Rattle.hs_base.specs.Schedule.{numbers_from}
use Rattle.hs_base.specs.Points.{count, is_observed}
use Rattle.plan_index.specs.Contents.{Contents}
use Rattle.plan_check.proofs.WithinLemmas.{few_points}
use Rattle.horizon_handover.proofs.preparing.observed_of.Goals as goal

pub overflow_cast-x : goal.overflow_cast-x
overflow_cast-x c =
    let checked = c.mission.ensures.checked in
    let few = few_points c.args.plan.now.mission checked.mission c.args.plan.now.plan.extensions checked.rules in
    omega (arith, few, c.points-x-end.ensures, ap (λ (x : Contents). length x.points) c.index-index.ensures, c.loop-x-test.true, c.loop-x.auto.x-end)

pub loop-x-preserved : goal.loop-x-preserved
loop-x-preserved c =
    let m = c.args.plan.now.mission in
    let es = c.args.plan.now.plan.extensions in
    c.in_ok-push.ensures.ok ∙ ap (λ (l : List Bool). l ++ c.is_observed.result ∷ []) c.loop-x.invariant
    ∙ ap (λ b. map (λ x. is_observed m es x) (numbers_from 0 c.loop-x.x) ++ b ∷ []) (c.is_observed.ensures es c.index-index.ensures ∙ ap (λ (n : Mission). is_observed n es c.loop-x.x) c.mission.ensures.mission)
    ∙ sym (map-range_with_len_more (λ x. is_observed m es x) 0 c.loop-x.x c.loop-x.x (omega arith))

pub returns : goal.returns
returns c =
    let m = c.args.plan.now.mission in
    let es = c.args.plan.now.plan.extensions in
    let all : c.loop-x.x ≡ count es = omega (arith, c.points-x-end.ensures, ap (λ (x : Contents). length x.points) c.index-index.ensures, c.loop-x-test.false, c.loop-x.auto.x-end) in
    subst (λ n. c.loop-x.flags ≡ map (λ x. is_observed m es x) (numbers_from 0 n)) all c.loop-x.invariant
