use Rattle.std.proofs.Common.{◌≡◌, ℕ, ◌-◌, length, ap, arith, ◌∙◌, get_or, Some}
use Rattle.std.proofs.lemmas.Option.{slice_get_within, get_or_from_slice_get}
use Rattle.std.proofs.lemmas.Int.{ints}
use Rattle.std.specs.Prelude.{slice_get}
use Rattle.hs_base.specs.declared.plan.Plan.{Plan}
use Rattle.hs_base.specs.declared.mission.Mission.{Mission}
use Rattle.hs_base.specs.declared.mission.Horizon.{Horizon}
use Rattle.hs_base.specs.Points.{count}
use Rattle.base_laws.proofs.MissionLemmas.{horizon_is}
use Rattle.plan_check.proofs.WithinLemmas.{few_points}
use Rattle.exec_laws.proofs.EndingLemmas.{last_horizon}
use Rattle.exec_core.proofs.flight.entries_of.Goals as goal

pub index-requires : goal.index-requires
index-requires c =
    let p = c.args.plan.now in
    let g = last_horizon p.mission p.plan.extensions c.plan.ensures.checked c.requires in
    let inside = slice_get_within p.mission.horizons (length p.plan.extensions - 1) g.0 g.1 in
    omega (arith, inside, c.len-last.ensures, ap (λ (q : Plan). length q.extensions) c.plan.ensures.plan, ap (λ (q : Mission). length q.horizons) c.mission.ensures.mission)

pub points-requires : goal.points-requires
points-requires c =
    let p = c.args.plan.now in
    let k = c.plan.ensures.checked in
    omega (arith, few_points p.mission k.mission p.plan.extensions k.rules, ap (λ (q : Plan). count q.extensions) c.plan-2.ensures.plan)

-- the horizon that is read is the last one
read_is : (m n : Mission) (i j : ℕ) (x g : Horizon) → m ≡ n → i ≡ j → x ≡ get_or m.horizons i x → slice_get n.horizons j ≡ Some g → x ≡ g
read_is m n i j x g same at is found = is ∙ ap (λ (q : Mission). get_or q.horizons i x) same ∙ ap (λ k. get_or n.horizons k x) at ∙ get_or_from_slice_get n.horizons j g x found

pub ticks_to-ticks-requires : goal.ticks_to-ticks-requires
ticks_to-ticks-requires c =
    let p = c.args.plan.now in
    let k = c.plan.ensures.checked in
    let g = last_horizon p.mission p.plan.extensions k c.requires in
    let size : c.len-last.result ≡ length p.plan.extensions = c.len-last.ensures ∙ ap (λ (q : Plan). length q.extensions) c.plan.ensures.plan in
    let here = read_is c.mission.result.now p.mission (c.len-last.result - 1) (length p.plan.extensions - 1) c.index.result.now g.0 c.mission.ensures.mission (ap (λ n. n - 1) size) c.index.ensures g.1 in
    let range = (horizon_is p.mission (length p.plan.extensions - 1) g.0 k.mission g.1).tick in
    let tick = ap (λ (h : Horizon). h.tick) here in
    record { low = omega (arith, ints, tick, range.0); high = omega (arith, ints, tick, range.1) }

pub returns : goal.returns
returns c =
    let p = c.args.plan.now in
    let size : c.len-last.result ≡ length p.plan.extensions = c.len-last.ensures ∙ ap (λ (q : Plan). length q.extensions) c.plan.ensures.plan in
    let all : c.points.result ≡ count p.plan.extensions = c.points.ensures ∙ ap (λ (q : Plan). count q.extensions) c.plan-2.ensures.plan in
    record {
      value = λ g is.
          let here = read_is c.mission.result.now p.mission (c.len-last.result - 1) (length p.plan.extensions - 1) c.index.result.now g c.mission.ensures.mission (ap (λ n. n - 1) size) c.index.ensures is in
          omega (arith, ints, all, c.ticks_to-ticks.ensures.value, ap (λ (h : Horizon). h.tick) here);
      some = omega arith;
    }
