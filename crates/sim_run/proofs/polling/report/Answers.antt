use Rattle.sim_run.proofs.TurnedLemmas.{reported_is}
use Rattle.sim_run.proofs.MoveLemmas.{comes_early}
use Rattle.sim_run.proofs.polling.report.Goals as goal

pub returns-in-Done-clause-done : goal.returns-in-Done-clause-done
returns-in-Done-clause-done c = record {
  is = reported_is c.args.exec.now c.report.new.self 0 c.report.result c.report.ensures.mission c.args.end c.report.ensures.turn c.in-Done.is;
  lawful = rw c.in-Done.is at c.report.ensures.turn.answers.lawful;
}

pub returns-in_default-clause-early : goal.returns-in_default-clause-early
returns-in_default-clause-early c = comes_early c.args.exec.now c.report.new.self c.report.result c.args.end c.report.ensures.mission c.requires.going c.requires.awaited c.report.ensures.turn c.in_default.not-Done
