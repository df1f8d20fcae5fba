use Rattle.std.proofs.Common.{rules, map, length, get_or, sym, ◌∙◌, ◌+◌, ◌<◌, arith, None, refl, subst}
use Rattle.std.proofs.lemmas.Bool.{OnFalse_at, OnTrue_at}
use Rattle.std.proofs.lemmas.List.{length-map, length-set, map-set}
use Rattle.std.proofs.lemmas.Option.{get_or_from_slice_get, slice_get-get_or, slice_get_read}
use Rattle.plan_check.proofs.NeedLemmas.{slice_get-mapped}
use Rattle.std.specs.Prelude.{slice_set}
use Rattle.exec_core.specs.Recorded.{Recorded}
use Rattle.sim_run.specs.Told.{Known, known}
use Rattle.sim_run.specs.Parts.{HasEnded, IsLookedAt}
use Rattle.sim_run.specs.Moves.{GoesOn}
use Rattle.sim_run.proofs.LookingLemmas.{AreLooking, looking_next, looking_on, looking_over}
use Rattle.sim_run.proofs.attending.attend_each.Goals as goal

pub returns-then-not-branch-clause-over : goal.returns-then-not-branch-clause-over
returns-then-not-branch-clause-over g c =
    let f = known g.D.Device.polls g.D.Device.faults in
    let i = c.loop-i.i in
    let x = c.loop-i.invariant.looking in
    let below : i < length c.loop-i.posts.items = omega (arith, c.loop-i-test.true, length-map c.loop-i.devices f, x.now_are) in
    let ended = OnFalse_at c.if-not-branch.true c.in_ok-attend.ensures.ended in
    let over = looking_over i c.loop-i.exec g.before (map f c.loop-i.devices) c.loop-i.posts.items x below (f c.attend.new.device) c.attend.new.post c.attend.new.exec
    (λ was at. subst (λ (k : Known). HasEnded i c.loop-i.exec c.attend.new.exec k (f c.attend.new.device)) (get_or_from_slice_get g.before i was (record { polls = None; faults = 0 }) at) ended) in
    rw (map-set f c.loop-i.devices i c.attend.new.device) (subst (λ (r : Recorded). GoesOn r c.attend.new.exec) c.loop-i.invariant.same over.0, over.1)

pub loop-i-preserved : goal.loop-i-preserved
loop-i-preserved g c =
    let f = known g.D.Device.polls g.D.Device.faults in
    let i = c.loop-i.i in
    let x = c.loop-i.invariant.looking in
    let below : i < length c.loop-i.posts.items = omega (arith, c.loop-i-test.true, length-map c.loop-i.devices f, x.now_are) in
    let looked = OnTrue_at c.if-not-branch.false c.in_ok-attend.ensures.goes_on in
    let on : AreLooking (i + 1) c.loop-i.exec g.before (slice_set (map f c.loop-i.devices) i (f c.attend.new.device)) (slice_set c.loop-i.posts.items i c.attend.new.post) =
    looking_on i c.loop-i.exec g.before (map f c.loop-i.devices) c.loop-i.posts.items x below (f c.attend.new.device) c.attend.new.post
    (λ was at. subst (λ (k : Known). IsLookedAt i c.loop-i.exec c.loop-i.exec k (f c.attend.new.device) c.attend.new.post) (get_or_from_slice_get g.before i was (record { polls = None; faults = 0 }) at)
    (record { same = refl; manned = looked.manned; watched = looked.watched })) in
    record {
      looking = rw (map-set f c.loop-i.devices i c.attend.new.device) (subst (λ (r : Recorded). AreLooking (i + 1) r g.before (slice_set (map f c.loop-i.devices) i (f c.attend.new.device)) (slice_set c.loop-i.posts.items i c.attend.new.post)) (sym looked.same) on);
      same = looked.same ∙ c.loop-i.invariant.same;
      many = length-set c.loop-i.devices i c.attend.new.device ∙ c.loop-i.invariant.many;
    }

pub attend-requires : goal.attend-requires
attend-requires g c κs within =
    let f = known g.D.Device.polls g.D.Device.faults in
    let i = c.loop-i.i in
    let x = c.loop-i.invariant.looking in
    let below : i < length c.loop-i.posts.items = omega (arith, c.loop-i-test.true, length-map c.loop-i.devices f, x.now_are) in (
      search rules,
      (
        x.going,
        (
          omega (arith, below, x.posts_are),
          looking_next i c.loop-i.exec g.before (map f c.loop-i.devices) c.loop-i.posts.items (record { polls = None; faults = 0 }) _ _ x below
              (slice_get-mapped f c.loop-i.devices i (get_or c.loop-i.devices i c.index-devices-i.result) (slice_get-get_or c.loop-i.devices i c.index-devices-i.result (omega (arith, c.loop-i-test.true, c.loop-i.auto))))
              (slice_get_read c.loop-i.posts.items (length c.loop-i.posts.items) i c.index_mut.result.now refl below c.index_mut.ensures.value),
        ),
      ),
    )
