use Rattle.std.proofs.Common.{rules, ◌≡◌, List, length, map, sym, ◌∙◌, subst, true, false}
use Rattle.std.proofs.lemmas.Bool.{OnFalse_at, OnTrue_at}
use Rattle.std.proofs.lemmas.List.{length-map}
use Rattle.hs_machine.specs.State.{now_of}
use Rattle.exec_core.specs.Recorded.{Recorded}
use Rattle.simulation_laws.specs.Standing.{HasJustBegun}
use Rattle.sim_run.specs.Told.{Known, known}
use Rattle.sim_run.specs.Moves.{GoesOn}
use Rattle.sim_run.specs.Parts.{IsCrewed}
use Rattle.sim_run.specs.Watches.{IsUnmanned}
use Rattle.sim_run.proofs.LaunchLemmas.{launched_crewed}
use Rattle.sim_run.proofs.flight.fly_on.Goals.{then-branch+in_ok-go_on, else-branch}
use Rattle.sim_run.proofs.flight.fly_on.Goals as goal

pub attend_all-requires : goal.attend_all-requires
attend_all-requires g c κs within =
    let f = known g.D.Device.polls g.D.Device.faults in
    let now : List Known = map f c.args.devices.now in
    let size : length now ≡ length c.args.devices.now = length-map c.args.devices.now f in
    let crewed = launched_crewed c.args.exec.now c.requires.1.1.0.0 now c.in_ok-watch.watch c.requires.1.1.0.1 (size ∙ c.requires.1.1.1) (subst (λ n. IsUnmanned n c.in_ok-watch.watch) (sym size) c.in_ok-watch.ensures) in
    (search rules, subst (λ (b : List Known). IsCrewed (HasJustBegun (now_of c.args.exec.now.history)) c.args.exec.now b now c.in_ok-watch.watch.posts.items) (sym c.requires.1.0) crewed)

pub returns-clause-over : goal.returns-clause-over
returns-clause-over g c =
    let f = known g.D.Device.polls g.D.Device.faults in
    elim c.if-branch.branch [
      | then-branch+in_ok-go_on w ↦
          let on = OnTrue_at w.if-branch.true c.in_ok-attend_all.ensures.goes_on in
          let over = w.in_ok-go_on.ensures.over in
          rw (w.exec-is, w.devices-is) (subst (λ (r : Recorded). GoesOn r w.go_on.new.exec) on.0 over.0, over.1)
      | else-branch w ↦
          let over = OnFalse_at w.if-branch.false c.in_ok-attend_all.ensures.over in
          rw (w.exec-is, w.devices-is) over
    ]
