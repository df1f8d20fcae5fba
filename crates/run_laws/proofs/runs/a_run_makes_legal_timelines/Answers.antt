use Rattle.run_laws.proofs.CheckedLemmas.{fit_legal, some_legal}
use Rattle.run_laws.proofs.runs.a_run_makes_legal_timelines.Goals as goal

pub returns : goal.returns
returns c = record { some = some_legal; each = fit_legal }
