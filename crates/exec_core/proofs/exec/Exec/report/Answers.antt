use Rattle.std.proofs.Common.{refl, ap, sym}
use Rattle.hs_machine.specs.declared.history.Deed.TheVariants.{Report, Early}
use Rattle.hs_machine.specs.Machine.{report, failed}
use Rattle.exec_core.specs.Replies.{reply_of}
use Rattle.exec_core.proofs.LawfulLemmas.{turn_by, may_leave, early_from}
use Rattle.exec_core.proofs.exec.Exec.report.Goals as goal

pub fail-requires-clause-may : goal.fail-requires-clause-may
fail-requires-clause-may c = may_leave c.args.self.now c.answer_report-reply.new.self (report c.args.point.0) (failed c.in-Failed.bound) (Early c.in-Failed.bound) c.answer_report-reply.ensures.same c.in-Failed.ensures.lawful (ap report (sym (early_from c.args.self.now.mission c.args.self.now.history c.args.point.0 c.in-Failed.bound c.in-Failed.ensures.lawful)), refl)

pub returns-in-Done-clause-turn : goal.returns-in-Done-clause-turn
returns-in-Done-clause-turn c =
    turn_by c.args.self.now c.answer_report-reply.new.self c.execute.new.self c.args.by (report c.args.point.0) (reply_of c.answer_report-reply.result) (Report c.args.point)
    c.answer_report-reply.ensures.same c.answer_report-reply.ensures.lawful (refl, ap reply_of c.in-Done.is) c.execute.ensures

pub returns-in-Failed-clause-turn : goal.returns-in-Failed-clause-turn
returns-in-Failed-clause-turn c =
    turn_by c.args.self.now c.answer_report-reply.new.self c.fail.new.self c.args.by (report c.args.point.0) (failed c.in-Failed.bound) (Early c.in-Failed.bound)
    c.answer_report-reply.ensures.same c.in-Failed.ensures.lawful (ap report (sym (early_from c.args.self.now.mission c.args.self.now.history c.args.point.0 c.in-Failed.bound c.in-Failed.ensures.lawful)), refl) c.fail.ensures
