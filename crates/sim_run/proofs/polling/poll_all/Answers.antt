use Rattle.std.proofs.Common.{◌≡◌, map, length, ap, ◌∙◌, ◌<◌, arith, None, Some, subst}
use Rattle.std.proofs.lemmas.List.{length-map, length-set, map-set}
use Rattle.std.proofs.lemmas.Option.{get_or_from_slice_get}
use Rattle.std.specs.Prelude.{slice_get}
use Rattle.sim_run.specs.Told.{Known, known}
use Rattle.sim_run.specs.Manned.{IsManned, rests}
use Rattle.sim_run.specs.Parts.{HasEnded, IsAsked}
use Rattle.hs_machine.specs.State.{now_of}
use Rattle.sim_run.specs.declared.post.Post.{Post}
use Rattle.sim_run.proofs.PolledLemmas.{ArePolled, polled_anew, polled_over, polled_quiet, polled_reported, polled_still}
use Rattle.sim_run.proofs.polling.poll_all.Goals.{in-Quiet, in-Reported}
use Rattle.sim_run.proofs.polling.poll_all.Goals as goal

pub returns-in-Over-clause-over : goal.returns-in-Over-clause-over
returns-in-Over-clause-over g c = λ is.
    let f = known g.D.Device.polls g.D.Device.faults in
    let x = c.loop-i.invariant.polled in
    let below : c.loop-i.i < length c.loop-i.watch.posts.items = omega (arith, c.loop-i-test.true, length-map c.loop-i.devices f, x.now_are) in
    let ended = c.poll.ensures.over c.in-Over.is in
    rw (map-set f c.loop-i.devices c.loop-i.i c.poll.new.device) (polled_over c.loop-i.i c.loop-i.polled c.args.exec.now c.loop-i.exec g.before (map f c.loop-i.devices) c.args.watch.now.posts.items c.loop-i.watch.posts.items x below (f c.poll.new.device) c.poll.new.post c.poll.new.exec
    (λ was at. subst (λ (k : Known). HasEnded c.loop-i.i c.loop-i.exec c.poll.new.exec k (f c.poll.new.device)) (get_or_from_slice_get g.before c.loop-i.i was (record { polls = None; faults = 0 }) at) ended))

pub returns-clause-quiet : goal.returns-clause-quiet
returns-clause-quiet g c = λ is.
    let f = known g.D.Device.polls g.D.Device.faults in
    let all : c.loop-i.i ≡ length (map f c.loop-i.devices) = omega (arith, c.loop-i-test.false, length-map c.loop-i.devices f, c.loop-i.invariant.many, c.loop-i.auto) in
    polled_still c.loop-i.polled c.args.exec.now c.loop-i.exec g.before (map f c.loop-i.devices) c.args.watch.now c.loop-i.watch
    (subst (λ n. ArePolled n c.loop-i.polled c.args.exec.now c.loop-i.exec g.before (map f c.loop-i.devices) c.args.watch.now.posts.items c.loop-i.watch.posts.items) all c.loop-i.invariant.polled)
    is c.requires.1.watches c.loop-i.invariant.mark

pub returns-clause-reported : goal.returns-clause-reported
returns-clause-reported g c = λ is.
    let f = known g.D.Device.polls g.D.Device.faults in
    let all : c.loop-i.i ≡ length (map f c.loop-i.devices) = omega (arith, c.loop-i-test.false, length-map c.loop-i.devices f, c.loop-i.invariant.many, c.loop-i.auto) in
    polled_anew c.loop-i.polled c.args.exec.now c.loop-i.exec g.before (map f c.loop-i.devices) c.args.watch.now c.loop-i.watch
    (subst (λ n. ArePolled n c.loop-i.polled c.args.exec.now c.loop-i.exec g.before (map f c.loop-i.devices) c.args.watch.now.posts.items c.loop-i.watch.posts.items) all c.loop-i.invariant.polled)
    is

pub loop-i-preserved : goal.loop-i-preserved
loop-i-preserved g c =
    let f = known g.D.Device.polls g.D.Device.faults in
    let x = c.loop-i.invariant.polled in
    let i = c.loop-i.i in
    let posts = c.loop-i.watch.posts.items in
    let now = map f c.loop-i.devices in
    let below : i < length posts = omega (arith, c.loop-i-test.true, length-map c.loop-i.devices f, x.now_are) in
    let unknown : Known = record { polls = None; faults = 0 } in
    let same : (old : Post) → slice_get posts i ≡ Some old → c.poll.new.post.end ≡ old.end = λ old at. c.poll.ensures.end ∙ ap (λ (p : Post). p.end) (c.index_mut.ensures.value ∙ get_or_from_slice_get posts i old c.index_mut.result.now at) in
    record {
      polled = rw (map-set f c.loop-i.devices i c.poll.new.device) (elim c.match-poll.branch [
        | in-Quiet w ↦
            let q = c.poll.ensures.quiet w.in-Quiet.is in
            rw (w.polled-is, q.0) (polled_quiet i c.loop-i.polled c.args.exec.now c.loop-i.exec g.before now c.args.watch.now.posts.items posts x below (f c.poll.new.device) c.poll.new.post
            (λ was at. subst (λ (k : Known). IsManned rests c.loop-i.exec.mission c.loop-i.exec.history i (now_of c.loop-i.exec.history) k (f c.poll.new.device) c.poll.new.post) (get_or_from_slice_get g.before i was unknown at) q.1)
            same)
        | in-Reported w ↦
            let q = c.poll.ensures.reported w.in-Reported.is in
            rw (w.polled-is) (polled_reported i c.loop-i.polled c.args.exec.now c.loop-i.exec g.before now c.args.watch.now.posts.items posts x below (f c.poll.new.device) c.poll.new.post c.poll.new.exec
            (λ was at. subst (λ (k : Known). IsAsked i c.loop-i.exec c.poll.new.exec k (f c.poll.new.device) c.poll.new.post) (get_or_from_slice_get g.before i was unknown at) q)
            same)
      ]);
      mark = c.loop-i.invariant.mark;
      many = length-set c.loop-i.devices i c.poll.new.device ∙ c.loop-i.invariant.many;
    }
