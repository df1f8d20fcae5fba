use Rattle.std.proofs.Common.{refl, ap}
use Rattle.hs_machine.specs.declared.history.Deed.TheVariants.{Broken}
use Rattle.hs_machine.specs.Machine.{broken}
use Rattle.exec_core.specs.Replies.{reply_of}
use Rattle.exec_core.proofs.LawfulLemmas.{turn_by}
use Rattle.exec_core.proofs.exec.Exec.broken.Goals as goal

pub returns-in-Done-clause-turn : goal.returns-in-Done-clause-turn
returns-in-Done-clause-turn c =
    turn_by c.args.self.now c.args.self.now c.fail.new.self c.args.by (broken c.args.device.0) (reply_of c.answer_broken-reply.result) (Broken c.args.device)
    refl c.answer_broken-reply.ensures (refl, ap reply_of c.in-Done.is) c.fail.ensures
