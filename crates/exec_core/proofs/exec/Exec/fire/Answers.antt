use Rattle.std.proofs.Common.{refl, ap}
use Rattle.hs_machine.specs.declared.history.Deed.TheVariants.{Fire}
use Rattle.hs_machine.specs.Machine.{fire}
use Rattle.exec_core.specs.Replies.{reply_of}
use Rattle.exec_core.proofs.LawfulLemmas.{turn_by}
use Rattle.exec_core.proofs.exec.Exec.fire.Goals as goal

pub returns-in-Done-clause-turn : goal.returns-in-Done-clause-turn
returns-in-Done-clause-turn c =
    turn_by c.args.self.now c.answer_fire-reply.new.self c.execute.new.self c.args.by (fire c.args.point.0) (reply_of c.answer_fire-reply.result) (Fire c.args.point)
    c.answer_fire-reply.ensures.same c.answer_fire-reply.ensures.lawful (refl, ap reply_of c.in-Done.is) c.execute.ensures
