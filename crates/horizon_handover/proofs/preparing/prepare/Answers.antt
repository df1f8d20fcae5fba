use Rattle.std.proofs.Common.{◌≡◌, List, Bool, length, map, sym, subst, ap, ◌∙◌, pos, []}
use Rattle.hs_base.specs.declared.mission.Mission.{Mission}
use Rattle.hs_base.specs.declared.plan.Plan.{Plan}
use Rattle.hs_base.specs.Schedule.{numbers_from}
use Rattle.hs_base.specs.Points.{count, is_observed}
use Rattle.hs_base.specs.Network.{spread}
use Rattle.hs_base.specs.Reduced.{IsReducedOf}
use Rattle.hs_base.specs.Dispatch.{IsReached}
use Rattle.hs_machine.specs.State.{times_of, executed}
use Rattle.dispatcher.specs.State.{State, begun}
use Rattle.plan_check.specs.Planned.{Planned}
use Rattle.exec_laws.specs.Follows.{Follows}
use Rattle.horizon_handover.specs.Offers.{beginning, IsLast}
use Rattle.horizon_handover.proofs.StartLemmas.{parts_of, start_reached, again, start_dispatch, flags_size}
use Rattle.horizon_handover.proofs.preparing.prepare.Goals as goal

-- the flags of a plan's points
abbrev flags_in : Planned → List Bool
flags_in p = map (λ y. is_observed p.mission p.plan.extensions y) (numbers_from 0 (count p.plan.extensions))

pub begin-requires-clause-reduced : goal.begin-requires-clause-reduced
begin-requires-clause-reduced c =
    let p : Planned = c.into_parts-plan.result.0 in
    let net = c.into_parts-plan.result.2 in
    let e = c.into_parts-plan.ensures in
    let k = parts_of c.args.reformed p c.into_parts-plan.result.1 net e.plan e.dist e.net e.reformed in
    let o : c.in_ok-observed.observed ≡ flags_in p = c.in_ok-observed.ensures in
    subst (λ (fs : List Bool). IsReducedOf (length fs) (spread net) net) (sym o) (subst (λ n. IsReducedOf n (spread net) net) (sym (flags_size p k.checked net k.net)) (again p k.checked net k.net))

pub begin-requires-clause-reached : goal.begin-requires-clause-reached
begin-requires-clause-reached c =
    let p : Planned = c.into_parts-plan.result.0 in
    let net = c.into_parts-plan.result.2 in
    let e = c.into_parts-plan.ensures in
    let k = parts_of c.args.reformed p c.into_parts-plan.result.1 net e.plan e.dist e.net e.reformed in
    let o : c.in_ok-observed.observed ≡ flags_in p = c.in_ok-observed.ensures in
    subst (λ (fs : List Bool). IsReached (length fs) net (executed []) (pos 0)) (sym o) (subst (λ n. IsReached n net (executed []) (pos 0)) (sym (flags_size p k.checked net k.net)) (start_reached p k.checked net k.net))

pub invariant_of-result : goal.invariant_of-result
invariant_of-result c =
    let p : Planned = c.into_parts-plan.result.0 in
    let net = c.into_parts-plan.result.2 in
    let e = c.into_parts-plan.ensures in
    let k = parts_of c.args.reformed p c.into_parts-plan.result.1 net e.plan e.dist e.net e.reformed in
    let o : c.in_ok-observed.observed ≡ flags_in p = c.in_ok-observed.ensures in
    let d : c.in_ok-dispatch.dispatch ≡ begun net (flags_in p) (times_of []) (pos 0) = c.in_ok-dispatch.ensures ∙ ap (λ (fs : List Bool). begun net fs (times_of []) (pos 0)) o in
    record {
      checked = k.checked;
      last = subst (λ (x : Plan). IsLast x.extensions c.in_ok-extension.extension) c.plan-2.ensures.plan c.in_ok-extension.ensures;
      net = c.in_ok-kept.ensures ∙ sym (ap (λ (s : State). s.net) d);
      dist = k.dist;
      dispatch = subst (Follows (beginning p)) (sym d) (start_dispatch p k.checked net k.net);
    }
