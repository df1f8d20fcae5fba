use Rattle.sim_run.proofs.flight.step.Given as goal

abbrev pub ghost-settle : goal.ghost-settle
ghost-settle g a = g.before

abbrev pub ghost-poll_all : goal.ghost-poll_all
ghost-poll_all g a = g.before

abbrev pub ghost-attend_all : goal.ghost-attend_all
ghost-attend_all g a = g.before
