use Rattle.run_laws.proofs.RunLemmas.{run_fits}
use Rattle.run_laws.proofs.runs.some_schedule_fits.Goals as goal

pub returns : goal.returns
returns c = λ m h run some. let f = run_fits m h run some in (f.s, f.fits)
