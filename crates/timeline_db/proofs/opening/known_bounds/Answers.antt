use Rattle.std.proofs.Common.{◌≡◌, ℕ, ℤ, ◌<◌, ◌≤◌, ◌++◌, List, length, get_or, slice_get, pos, sym, ap, ◌∙◌, subst, arith}
use Rattle.std.proofs.lemmas.Option.{slice_get-get_or}
use Rattle.std.specs.Prelude.{◌≤ℤ◌, option_map, unwrap_or}
use Rattle.hs_base.specs.Bounds.{bounds_of, exactly}
use Rattle.hs_base.specs.Points.{count}
use Rattle.hs_base.specs.declared.mission.Horizon.{Horizon}
use Rattle.hs_base.specs.declared.mission.Mission.{Mission}
use Rattle.hs_base.specs.declared.plan.Plan.{Plan}
use Rattle.hs_base.specs.declared.plan.Time.{Time}
use Rattle.base_laws.proofs.ListLemmas.{each_at}
use Rattle.plan_check.proofs.WithinLemmas.{few_points, within}
use Rattle.plan_check.specs.Seen.{seen}
use Rattle.plan_index.specs.Contents.{Contents}
use Rattle.search_tree.proofs.CellLemmas.{stub_count}
use Rattle.search_tree.specs.Begun.{Begun, begun_of, pending}
use Rattle.timeline_db.proofs.OpeningLemmas.{begun_made, fixed_below, fixed_times, tick_fits}
use Rattle.timeline_db.specs.Kept.{tick_of}
use Rattle.token_net.specs.Conditions.{IsWithin}
use Rattle.timeline_db.proofs.opening.known_bounds.Goals as goal

pub overflow_cast-mark : goal.overflow_cast-mark
overflow_cast-mark c =
    omega (
      arith,
      few_points c.args.snapshot.now.plan.mission c.requires.checked.mission c.args.snapshot.now.plan.plan.extensions c.requires.checked.rules,
      c.points-mark.ensures ∙ ap (λ (x : Contents). length x.points) c.index-index.ensures,
    )

pub overflow_add-points : goal.overflow_add-points
overflow_add-points c =
    omega (
      arith,
      few_points c.args.snapshot.now.plan.mission c.requires.checked.mission c.args.snapshot.now.plan.plan.extensions c.requires.checked.rules,
      c.points.ensures ∙ ap (λ (x : Contents). length x.points) c.index-index.ensures,
    )

pub flags_of-requires : goal.flags_of-requires
flags_of-requires c = λ k d below.
    let es = c.args.snapshot.now.plan.plan.extensions in
    let fixed = c.args.snapshot.now.fixed in
    let there : k < length fixed = subst (λ (l : List Time). k < length l) c.as_slice-times.ensures below in
    let own = each_at (λ (t : Time). t.point.0 < count es) fixed k (get_or fixed k d) (fixed_below es (pending (begun_of (seen c.args.snapshot.now))) fixed c.requires.fixed.each) (slice_get-get_or fixed k d there) in
    omega (arith, own, ap (λ (l : List Time). (get_or l k d).point.0) c.as_slice-times.ensures, c.points.ensures ∙ ap (λ (x : Contents). length x.points) c.index-index.ensures)

pub bounds-requires-clause-small : goal.bounds-requires-clause-small
bounds-requires-clause-small c =
    omega (arith, few_points c.args.snapshot.now.plan.mission c.requires.checked.mission c.args.snapshot.now.plan.plan.extensions c.requires.checked.rules, ap (λ (p : Plan). count p.extensions) c.plan.ensures.plan)

pub bounds-requires-clause-within : goal.bounds-requires-clause-within
bounds-requires-clause-within c =
    subst (λ (p : Plan). IsWithin c.mission-mission.result.now p.extensions) (sym c.plan.ensures.plan)
    (subst (λ (m : Mission). IsWithin m c.args.snapshot.now.plan.plan.extensions) (sym c.mission-mission.ensures.mission) (within c.args.snapshot.now.plan.mission c.requires.checked.mission c.args.snapshot.now.plan.plan.extensions c.requires.checked.rules))

pub push_fixed-requires : goal.push_fixed-requires
push_fixed-requires c = λ k d below.
    let fixed = c.args.snapshot.now.fixed in
    let times = fixed_times c.args.snapshot.now.plan.plan.extensions (pending (begun_of (seen c.args.snapshot.now))) fixed c.requires.fixed.each in
    let there : k < length fixed = subst (λ (l : List Time). k < length l) c.as_slice-times.ensures below in
    subst (λ (l : List Time). pos 0 ≤ℤ (get_or l k d).at) (sym c.as_slice-times.ensures) (each_at (λ (t : Time). pos 0 ≤ℤ t.at) fixed k (get_or fixed k d) times (slice_get-get_or fixed k d there))

pub push_since-requires-clause-size : goal.push_since-requires-clause-size
push_since-requires-clause-size c =
    omega (
      arith,
      stub_count (begun_of (seen c.args.snapshot.now)),
      c.points.ensures ∙ ap (λ (x : Contents). length x.points) c.index-index.ensures,
      c.in_ok-flags.ensures.size,
      ap length c.deref.ensures.value,
    )

pub push_since-requires-clause-few : goal.push_since-requires-clause-few
push_since-requires-clause-few c =
    omega (
      arith,
      few_points c.args.snapshot.now.plan.mission c.requires.checked.mission c.args.snapshot.now.plan.plan.extensions c.requires.checked.rules,
      c.points.ensures ∙ ap (λ (x : Contents). length x.points) c.index-index.ensures,
      c.in_ok-flags.ensures.size,
      ap length c.deref.ensures.value,
    )

pub returns : goal.returns
returns c =
    let b : Begun = begun_of (seen c.args.snapshot.now) in
    let m = c.args.snapshot.now.plan.mission in
    let es = c.args.snapshot.now.plan.plan.extensions in
    let mark : c.points-mark.result ≡ count es = c.points-mark.ensures ∙ ap (λ (x : Contents). length x.points) c.index-index.ensures in
    let tick : c.tick_at.result ≡ tick_of m b =
    c.tick_at.ensures ∙ ap (λ (x : Mission). unwrap_or (option_map (λ (h : Horizon). h.tick) (slice_get x.horizons c.horizons.result)) (pos 0)) c.mission-mission.ensures.mission
    ∙ ap (λ (n : ℕ). unwrap_or (option_map (λ (h : Horizon). h.tick) (slice_get m.horizons n)) (pos 0)) (c.horizons.ensures ∙ ap (λ (x : Contents). x.horizons) c.index-index.ensures) in
    begun_made m b c.requires c.points-mark.result c.tick_at.result c.as_slice-times.result.now _ _ _ _ _ mark tick c.as_slice-times.ensures
    (c.into_vec-made.ensures ∙ c.in_ok-bounds.ensures ∙ ap (λ (x : Mission). bounds_of x c.plan.result.now.extensions) c.mission-mission.ensures.mission ∙ ap (λ (p : Plan). bounds_of m p.extensions) c.plan.ensures.plan)
    (c.in_ok-push_exactly.ensures ∙ ap (λ (z : ℤ). c.into_vec-made.result.items ++ exactly c.points-mark.result z) (tick_fits m b c.requires c.tick_at.result tick)) c.in_ok-push_apart.ensures c.in_ok-push_fixed.ensures c.in_ok-push_since.ensures
