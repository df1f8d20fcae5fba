use Rattle.std.proofs.Common.{sym, subst}
use Rattle.hs_machine.specs.Machine.{Replies, report}
use Rattle.exec_core.specs.Replies.{reply_of}
use Rattle.exec_core.specs.declared.reply.Reply.{Reply}
use Rattle.exec_core.proofs.LawfulLemmas.{not_running, report_lawful}
use Rattle.exec_core.proofs.exec.Exec.answer_report.Goals as goal
use Rattle.exec_core.proofs.exec.Exec.answer_report.Goals.{in-Some-live, in-None-live}

pub returns-clause-lawful : goal.returns-clause-lawful
returns-clause-lawful c = elim c.match-self.branch [
  | in-Some-live w ↦ subst (λ (r : Reply). Replies c.args.self.now.mission c.args.self.now.history (report c.args.point.0) (reply_of r)) (sym w.result-is)
      (report_lawful c.self.inside c.self.invariant w.in-Some-live.flight w.in-Some-live.is c.args.self.now c.args.point.0 (reply_of w.decide_report.result) c.self.view_is c.in-None.ensures w.decide_report.ensures.reply)
  | in-None-live w ↦ absurd (not_running c.self.inside c.self.invariant c.args.self.now c.self.view_is w.in-None-live.is c.in-None.ensures)
]
