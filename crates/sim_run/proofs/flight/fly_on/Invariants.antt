use Rattle.sim_run.proofs.flight.fly_on.Given as goal

abbrev pub ghost-attend_all : goal.ghost-attend_all
ghost-attend_all g a = g.before

abbrev pub ghost-go_on : goal.ghost-go_on
ghost-go_on g a = g.before
