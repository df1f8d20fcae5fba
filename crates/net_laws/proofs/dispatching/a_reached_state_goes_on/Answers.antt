use Rattle.net_laws.proofs.StepLemmas.{fired, ticked, progress, set_forced}
use Rattle.net_laws.proofs.dispatching.a_reached_state_goes_on.Goals as goal

pub returns : goal.returns
returns c = record { fired = fired; ticked = ticked; progress = λ c net at n is now. progress c net is at n now; set_forced = λ c net at n is now. set_forced c net is at n now }
