use Rattle.std.proofs.Common.{◌≡◌, ℕ, map, slice_get, pos, ap, ◌∙◌}
use Rattle.std.specs.Prelude.{option_map, unwrap_or}
use Rattle.hs_base.specs.declared.mission.Horizon.{Horizon}
use Rattle.hs_base.specs.declared.mission.Mission.{Mission}
use Rattle.plan_check.specs.Planned.{Planned}
use Rattle.plan_check.specs.Seen.{seen}
use Rattle.plan_index.specs.Contents.{Contents}
use Rattle.search_tree.specs.Begun.{Begun, begun_of}
use Rattle.search_tree.specs.Partial.{Partial}
use Rattle.stn_trail.specs.Held.{Held as Trailed}
use Rattle.stn_trail.specs.declared.part.Part.TheVariants.{Added}
use Rattle.timeline_db.proofs.OpeningLemmas.{db_copied, open_copied, root_few, root_kept, root_range, tick_fits, whole_fits}
use Rattle.timeline_db.specs.Kept.{tick_of}
use Rattle.timeline_db.proofs.db.Db.begin.Goals as goal

pub trail_of-requires-clause-points : goal.trail_of-requires-clause-points
trail_of-requires-clause-points c =
    root_few c.args.snapshot.now.plan.mission (begun_of (seen c.args.snapshot.now)) c.requires c.in_ok-board.board.points (ap (λ (p : Partial). p.points) c.in_ok-board.ensures.shows)

pub trail_of-requires-clause-range : goal.trail_of-requires-clause-range
trail_of-requires-clause-range c =
    root_range c.args.snapshot.now.plan.mission (begun_of (seen c.args.snapshot.now)) c.requires c.in_ok-board.board.points c.deref-2.result.now (ap (λ (p : Partial). p.points) c.in_ok-board.ensures.shows) (c.deref-2.ensures.value ∙ c.in_ok-made.ensures)

pub trail_of-requires-clause-schedule : goal.trail_of-requires-clause-schedule
trail_of-requires-clause-schedule c = root_kept c.args.snapshot.now.plan.mission (begun_of (seen c.args.snapshot.now)) c.requires c.deref-2.result.now (c.deref-2.ensures.value ∙ c.in_ok-made.ensures)

pub invariant_of-result : goal.invariant_of-result
invariant_of-result c =
    let m = c.args.snapshot.now.plan.mission in
    let b : Begun = begun_of (seen c.args.snapshot.now) in
    let tick : c.tick_at-tick.result ≡ tick_of m b =
    c.tick_at-tick.ensures ∙ ap (λ (x : Mission). unwrap_or (option_map (λ (h : Horizon). h.tick) (slice_get x.horizons c.horizons-horizons.result)) (pos 0)) c.mission.ensures.mission
    ∙ ap (λ (n : ℕ). unwrap_or (option_map (λ (h : Horizon). h.tick) (slice_get m.horizons n)) (pos 0)) (c.horizons-horizons.ensures ∙ ap (λ (x : Contents). x.horizons) c.index.ensures) in
    let trail = c.begin.ensures.trail in
    db_copied m b c.requires c.in_ok-copy.field-0 _ _ c.in_ok-copy-2.field-0 c.in_ok-board.board c.begin.result.steps.items c.begin.result.trail
    (ap (λ (p : Planned). p.mission) c.in_ok-copy.ensures) (ap (λ (p : Planned). p.plan.extensions) c.in_ok-copy.ensures) (whole_fits c.args.snapshot.now.since c.requires.fixed.since) c.in_ok-copy-2.ensures
    (tick_fits m b c.requires c.tick_at-tick.result tick ∙ tick)
    c.in_ok-board.ensures.lines c.in_ok-board.ensures.shows c.in_ok-board.ensures.counts
    (ap (λ (t : Trailed). t.first) trail ∙ c.in_ok-trail.ensures.first) (ap (λ (t : Trailed). t.parts) trail ∙ c.in_ok-trail.ensures.parts ∙ ap (map (λ x. Added x)) (c.deref-2.ensures.value ∙ c.in_ok-made.ensures)) c.begin.ensures.steps

pub returns-clause-kept : goal.returns-clause-kept
returns-clause-kept c =
    open_copied c.args.snapshot.now.plan.mission (begun_of (seen c.args.snapshot.now)) c.requires c.in_ok-copy.field-0 _ c.in_ok-copy-2.field-0 c.begin.result.steps.items
    (ap (λ (p : Planned). p.mission) c.in_ok-copy.ensures) (ap (λ (p : Planned). p.plan.extensions) c.in_ok-copy.ensures) (whole_fits c.args.snapshot.now.since c.requires.fixed.since) c.in_ok-copy-2.ensures c.begin.ensures.steps
