use Rattle.std.proofs.Common.{refl, ap}
use Rattle.hs_machine.specs.declared.history.Deed.TheVariants.{Tick, Late}
use Rattle.hs_machine.specs.Machine.{tick, failed}
use Rattle.exec_core.specs.Replies.{reply_of}
use Rattle.exec_core.proofs.LawfulLemmas.{turn_by, may_leave}
use Rattle.exec_core.proofs.exec.Exec.tick.Goals as goal

pub fail-requires-clause-may : goal.fail-requires-clause-may
fail-requires-clause-may c = may_leave c.args.self.now c.answer_tick-reply.new.self tick (failed c.in-Failed.bound) (Late c.in-Failed.bound) c.answer_tick-reply.ensures.same c.in-Failed.ensures.lawful (refl, refl)

pub returns-in-Done-clause-turn : goal.returns-in-Done-clause-turn
returns-in-Done-clause-turn c =
    turn_by c.args.self.now c.answer_tick-reply.new.self c.advance.new.self c.args.by tick (reply_of c.answer_tick-reply.result) Tick
    c.answer_tick-reply.ensures.same c.answer_tick-reply.ensures.lawful (refl, ap reply_of c.in-Done.is) c.advance.ensures

pub returns-in-Failed-clause-turn : goal.returns-in-Failed-clause-turn
returns-in-Failed-clause-turn c =
    turn_by c.args.self.now c.answer_tick-reply.new.self c.fail.new.self c.args.by tick (failed c.in-Failed.bound) (Late c.in-Failed.bound)
    c.answer_tick-reply.ensures.same c.in-Failed.ensures.lawful (refl, refl) c.fail.ensures
