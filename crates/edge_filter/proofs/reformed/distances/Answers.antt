use Rattle.std.proofs.Common.{◌≡◌, List, All, length, sym, subst, ap, ◌∙◌, arith}
use Rattle.hs_base.specs.declared.net.Bound.{Bound}
use Rattle.std.proofs.lemmas.List.Sorted.{All-permutation}
use Rattle.hs_base.specs.declared.mission.Mission.{Mission}
use Rattle.hs_base.specs.declared.plan.Plan.{Plan}
use Rattle.hs_base.specs.Points.{count}
use Rattle.hs_base.specs.Bounds.{bounds_of}
use Rattle.hs_base.specs.Schedule.{HasNoSchedule}
use Rattle.hs_base.specs.Checked.{Checked, fixed_of}
use Rattle.stn_distance.specs.Ranges.{IsInRange, StaysInTime, IsFixed}
use Rattle.plan_index.specs.Contents.{Contents}
use Rattle.plan_check.proofs.WithinLemmas.{within, few_points}
use Rattle.edge_filter.proofs.ReformLemmas.{bounds_range, bounds_stay, all_fixed, few_rows}
use Rattle.edge_filter.proofs.reformed.distances.Goals as goal

pub bounds-requires : goal.bounds-requires
bounds-requires c =
    let m = c.mission.result.now in
    let es = c.plan.result.now.extensions in
    let checked : Checked m es = subst (λ (x : Mission). Checked x es) (sym c.mission.ensures.mission) (subst (λ (p : Plan). Checked c.args.plan.now.mission p.extensions) (sym c.plan.ensures.plan) c.mission.ensures.checked) in
    record {
      small = let few = few_points m checked.mission es checked.rules in omega (arith, few);
      mission = checked.mission;
      within = within m checked.mission es checked.rules;
    }

pub points-requires : goal.points-requires
points-requires c =
    let checked = c.mission.ensures.checked in
    let few = few_points c.args.plan.now.mission checked.mission c.args.plan.now.plan.extensions checked.rules in
    omega (arith, few, ap (λ (p : Plan). count p.extensions) c.plan-2.ensures.plan)

pub close_fixed-requires : goal.close_fixed-requires
close_fixed-requires c =
    let m = c.args.plan.now.mission in
    let es = c.args.plan.now.plan.extensions in
    let checked = c.mission.ensures.checked in
    let n_is : c.points.result ≡ count es = c.points.ensures ∙ ap (λ (p : Plan). count p.extensions) c.plan-2.ensures.plan in
    let bs_is : c.as_slice-2.result.now ≡ bounds_of m es = c.as_slice-2.ensures ∙ c.in_ok-bounds.ensures ∙ ap (λ (x : Mission). bounds_of x c.plan.result.now.extensions) c.mission.ensures.mission ∙ ap (λ (p : Plan). bounds_of m p.extensions) c.plan.ensures.plan in
    let old_is : c.in_ok-fixed.fixed.items ≡ fixed_of es = c.in_ok-fixed.ensures ∙ ap (λ (x : Contents). x.fixed) c.index.ensures in
    let few = few_points m checked.mission es checked.rules in
    let rows = few_rows m es checked in
    record {
      few = (omega (arith, n_is), omega (arith, n_is, few));
      rows = omega (arith, n_is, rows, ap length old_is, ap length c.as_slice.ensures.value, c.sort_unstable_by_key.ensures.len);
      range = subst (λ (bs : List Bound). All (IsInRange c.points.result) bs) (sym bs_is) (subst (λ n. All (IsInRange n) (bounds_of m es)) (sym n_is) (bounds_range m es checked));
      stays = subst (λ (bs : List Bound). StaysInTime c.points.result bs) (sym bs_is) (subst (λ n. StaysInTime n (bounds_of m es)) (sym n_is) (bounds_stay m es));
      fixed = subst (λ (bs : List Bound). All (IsFixed c.points.result bs) c.as_slice.result.now) (sym bs_is) (subst (λ n. All (IsFixed n (bounds_of m es)) c.as_slice.result.now) (sym n_is)
          (subst (All (IsFixed (count es) (bounds_of m es))) (sym c.as_slice.ensures.value) (All-permutation (IsFixed (count es) (bounds_of m es)) c.in_ok-fixed.fixed.items _ c.sort_unstable_by_key.ensures.permutation
          (subst (All (IsFixed (count es) (bounds_of m es))) (sym old_is) (all_fixed m es checked)))));
    }

pub unreachable-requires : goal.unreachable-requires
unreachable-requires c =
    let m = c.args.plan.now.mission in
    let es = c.args.plan.now.plan.extensions in
    let bs_is : c.as_slice-2.result.now ≡ bounds_of m es = c.as_slice-2.ensures ∙ c.in_ok-bounds.ensures ∙ ap (λ (x : Mission). bounds_of x c.plan.result.now.extensions) c.mission.ensures.mission ∙ ap (λ (p : Plan). bounds_of m p.extensions) c.plan.ensures.plan in
    let none : HasNoSchedule (bounds_of m es) = subst (λ (bs : List Bound). HasNoSchedule bs) bs_is (rw c.in-Err-Cycle.field-0-is at c.in-Err-Cycle.ensures.none) in
    none.none c.mission.ensures.checked.schedule c.mission.ensures.checked.meets
