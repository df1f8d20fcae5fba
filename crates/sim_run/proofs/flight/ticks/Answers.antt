use Rattle.sim_run.proofs.TurnedLemmas.{ticked_is}
use Rattle.sim_run.proofs.MoveLemmas.{has_ticked, is_late}
use Rattle.sim_run.proofs.flight.ticks.Goals as goal

pub returns-in-Done-clause-ticked : goal.returns-in-Done-clause-ticked
returns-in-Done-clause-ticked c =
    has_ticked c.args.exec.now c.tick.new.self c.requires.going c.requires.settled
    (ticked_is c.args.exec.now c.tick.new.self 0 c.tick.result c.tick.ensures.mission c.tick.ensures.turn c.in-Done.is)
    (rw c.in-Done.is at c.tick.ensures.turn.answers.lawful)

pub returns-in_default-clause-late : goal.returns-in_default-clause-late
returns-in_default-clause-late c = is_late c.args.exec.now c.tick.new.self c.tick.result c.tick.ensures.mission c.requires.going c.requires.settled c.tick.ensures.turn c.in_default.not-Done
