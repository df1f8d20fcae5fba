use Rattle.net_laws.proofs.AnswerLemmas.{fits_both, fire_or_bound, bound_bars, held}
use Rattle.net_laws.proofs.dispatching.each_answer_has_its_bound.Goals as goal

pub returns : goal.returns
returns c = record { fits = fits_both; fire = λ c net at n is now. fire_or_bound c net is at n now; bars = λ c net at n is now. bound_bars c net is at n now; held = λ c net at n is now. held c net is at n now }
