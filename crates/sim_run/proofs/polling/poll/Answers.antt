use Rattle.std.proofs.Common.{◌≡◌, ◌-◌, ◌∙◌, refl, subst, arith, inl, inr, pos, to_z, of_z, w64}
use Rattle.std.proofs.lemmas.Int.{ints, to_z-of_z}
use Rattle.hs_port.specs.Causes.{Rose}
use Rattle.hs_machine.specs.State.{now_of}
use Rattle.sim_run.proofs.PostLemmas.{due_at, on_at, quiet_at}
use Rattle.sim_run.proofs.DeedLemmas.{asked_reported, ended_broken, ended_early}
use Rattle.sim_run.specs.Manned.{IsManned, rests}
use Rattle.sim_run.specs.Told.{HasAnswered, known}
use Rattle.sim_run.proofs.ToldLemmas.{rose_later, told_same}
use Rattle.sim_run.proofs.polling.poll.Goals as goal

pub returns-in_default-clause-quiet : goal.returns-in_default-clause-quiet
returns-in_default-clause-quiet g c = λ q. (refl, quiet_at c.args.exec.now.mission c.args.exec.now.history c.args.sv.0 (now_of c.args.exec.now.history) c.requires.1.1.1.0 g.before (known g.D.Device.polls g.D.Device.faults c.args.device.now) c.args.post.now c.requires.1.1.1.1 c.in_default.is)

pub returns-in-On-clause-quiet : goal.returns-in-On-clause-quiet
returns-in-On-clause-quiet g c = λ q.
    let before = known g.D.Device.polls g.D.Device.faults c.args.device.now in
    let now = known g.D.Device.polls g.D.Device.faults c.hear.new.device in
    let same : to_z w64 (of_z w64 c.now.result) ≡ pos (now_of c.args.exec.now.history) = to_z-of_z w64 c.now.result (omega (arith, ints, c.now.type_inv)) ∙ c.now.ensures in
    let answered : HasAnswered before now c.in-Some.script c.hear.new.script (pos (now_of c.args.exec.now.history)) = subst (HasAnswered before now c.in-Some.script c.hear.new.script) same c.in-On.ensures.0 in
    (refl, on_at c.args.exec.now.mission c.args.exec.now.history c.args.sv.0 (now_of c.args.exec.now.history) c.requires.1.1.1.0 g.before before c.args.post.now c.requires.1.1.1.1 c.in-Some.script c.in-Some.is now c.hear.new.script answered c.in-On.ensures.1)

pub returns-in-Finished-clause-reported : goal.returns-in-Finished-clause-reported
returns-in-Finished-clause-reported g c = λ is.
    let before = known g.D.Device.polls g.D.Device.faults c.args.device.now in
    let now = known g.D.Device.polls g.D.Device.faults c.hear.new.device in
    let same : to_z w64 (of_z w64 c.now.result) ≡ pos (now_of c.args.exec.now.history) = to_z-of_z w64 c.now.result (omega (arith, ints, c.now.type_inv)) ∙ c.now.ensures in
    let answered : HasAnswered before now c.in-Some.script c.hear.new.script (pos (now_of c.args.exec.now.history)) = subst (HasAnswered before now c.in-Some.script c.hear.new.script) same c.in-Finished.ensures.0 in
    let due = due_at c.args.exec.now.mission c.args.exec.now.history c.args.sv.0 (now_of c.args.exec.now.history) c.requires.1.1.1.0 g.before before c.args.post.now c.requires.1.1.1.1 c.in-Some.script c.in-Some.is now c.hear.new.script answered c.in-Finished.ensures.1 in
    rw (c.finish.ensures.post) (asked_reported c.args.sv.0 c.args.exec.now c.finish.new.exec g.before now c.args.post.now.end c.requires.1.0 due (c.finish.ensures.done is))

pub returns-in-Finished-clause-over : goal.returns-in-Finished-clause-over
returns-in-Finished-clause-over g c = λ is.
    let before = known g.D.Device.polls g.D.Device.faults c.args.device.now in
    let now = known g.D.Device.polls g.D.Device.faults c.hear.new.device in
    let same : to_z w64 (of_z w64 c.now.result) ≡ pos (now_of c.args.exec.now.history) = to_z-of_z w64 c.now.result (omega (arith, ints, c.now.type_inv)) ∙ c.now.ensures in
    let answered : HasAnswered before now c.in-Some.script c.hear.new.script (pos (now_of c.args.exec.now.history)) = subst (HasAnswered before now c.in-Some.script c.hear.new.script) same c.in-Finished.ensures.0 in
    let due = due_at c.args.exec.now.mission c.args.exec.now.history c.args.sv.0 (now_of c.args.exec.now.history) c.requires.1.1.1.0 g.before before c.args.post.now c.requires.1.1.1.1 c.in-Some.script c.in-Some.is now c.hear.new.script answered c.in-Finished.ensures.1 in
    ended_early c.args.sv.0 c.args.exec.now c.finish.new.exec g.before now c.args.post.now.end c.requires.1.0 due (c.finish.ensures.early is)

pub returns-in-Failed-clause-over : goal.returns-in-Failed-clause-over
returns-in-Failed-clause-over g c = λ is.
    let m = c.args.exec.now.mission in
    let h = c.args.exec.now.history in
    let before = known g.D.Device.polls g.D.Device.faults c.args.device.now in
    let now = known g.D.Device.polls g.D.Device.faults c.hear.new.device in
    let same : to_z w64 (of_z w64 c.now.result) ≡ pos (now_of h) = to_z-of_z w64 c.now.result (omega (arith, ints, c.now.type_inv)) ∙ c.now.ensures in
    let x : IsManned rests m h c.args.sv.0 (now_of h - 1) g.before before c.args.post.now = c.requires.1.1.1.1 in
    let rose : Rose g.before.faults now.faults = rose_later g.before.faults before.faults now.faults x.told.faults c.in-Failed.ensures.1 in
    elim c.in-Failed.ensures.0 [
      | inl told ↦
          ended_broken c.args.sv c.args.exec.now c.break_down.new.exec g.before now x.polls (now_of h - 1) x.standing c.requires.1.0 c.requires.1.1.0 (told_same g.before before now x.polls x.told told) x.stands (inr (omega (arith, c.requires.1.1.1.0))) rose c.break_down.ensures.broken c.break_down.ensures.lawful
      | inr heard ↦
          let answered : HasAnswered before now c.in-Some.script c.hear.new.script (pos (now_of h)) = subst (HasAnswered before now c.in-Some.script c.hear.new.script) same heard.0 in
          let y = on_at m h c.args.sv.0 (now_of h) c.requires.1.1.1.0 g.before before c.args.post.now x c.in-Some.script c.in-Some.is now c.hear.new.script answered heard.1 in
          ended_broken c.args.sv c.args.exec.now c.break_down.new.exec g.before now y.polls (now_of h) y.standing c.requires.1.0 c.requires.1.1.0 y.told y.stands (inl refl) rose c.break_down.ensures.broken c.break_down.ensures.lawful
    ]
