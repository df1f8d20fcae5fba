use Rattle.sim_run.proofs.TurnedLemmas.{fired_is, unfired, unlawful}
use Rattle.sim_run.proofs.settling.fires.Goals as goal

pub returns-in-Done-clause-fired : goal.returns-in-Done-clause-fired
returns-in-Done-clause-fired c = record {
  is = fired_is c.args.exec.now c.fire.new.self 0 c.fire.result c.fire.ensures.mission c.args.point c.fire.ensures.turn c.in-Done.is;
  lawful = rw c.in-Done.is at c.fire.ensures.turn.answers.lawful;
}

pub returns-in_default-clause-same : goal.returns-in_default-clause-same
returns-in_default-clause-same c = unfired c.args.exec.now c.fire.new.self 0 c.fire.result c.fire.ensures.mission c.args.point.0 c.fire.ensures.turn c.in_default.not-Done

pub returns-in_default-clause-unlawful : goal.returns-in_default-clause-unlawful
returns-in_default-clause-unlawful c = unlawful c.args.exec.now c.fire.new.self 0 c.fire.result c.fire.ensures.mission c.args.point.0 c.fire.ensures.turn c.in_default.not-Done
