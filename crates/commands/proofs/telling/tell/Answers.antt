use Rattle.std.proofs.lemmas.Result.{IfOk-at_ok}
use Rattle.std.proofs.Common.{ap, ◌∙◌}
use Rattle.hs_base.specs.declared.mission.Mission.{Mission}
use Rattle.log_laws.specs.LogText.{log_text}
use Rattle.sim_run.specs.Runs.{attempts_of}
use Rattle.commands.specs.Runs.{IsClosed}
use Rattle.commands.specs.declared.status.Status.{Status}
use Rattle.commands.proofs.EndLemmas.{run_told}
use Rattle.commands.proofs.telling.tell.Goals as goal

pub returns : goal.returns
returns c nodes given heard r =
    let m = c.args.flown.now.exec.mission in
    let h = c.args.flown.now.exec.history in
    run_told m nodes given heard h c.in_ok-text.text c.push_closing.new.text c.in_ok-status.status (attempts_of c.args.flown.now.planned) r (c.in_ok-text.ensures ∙ ap (λ (n : Mission). log_text n c.history.result.now) c.mission.ensures ∙ ap (log_text m) c.history.ensures)
    (IfOk-at_ok (λ (s : Status). IsClosed heard m h (attempts_of c.args.flown.now.planned) c.in_ok-text.text s c.push_closing.new.text) c.in_ok-status.was (c.push_closing.ensures nodes given heard r))
