use Rattle.sim_run.proofs.attending.attend_all.Given as goal

abbrev pub ghost-attend_each : goal.ghost-attend_each
ghost-attend_each g a = g.before
