use Rattle.sim_run.proofs.flight.fly.Goals as goal
