use Rattle.net_laws.proofs.WindowLemmas.{window_enables, windows_free}
use Rattle.net_laws.proofs.dispatching.windows_decide.Goals as goal

pub returns : goal.returns
returns c = record { fire = λ c net at n is now. window_enables c net is at n now; tick = λ c net at n is now. windows_free c net is at n now }
