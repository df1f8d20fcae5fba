use Rattle.sim_run.proofs.settling.try_point.Given as goal

abbrev pub ghost-attend_all : goal.ghost-attend_all
ghost-attend_all g a = g.before
