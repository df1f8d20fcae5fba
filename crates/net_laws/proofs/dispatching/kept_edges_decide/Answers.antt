use Rattle.net_laws.proofs.DispatchLemmas.{fire, tick, forced, member, set, each_stands}
use Rattle.net_laws.proofs.dispatching.kept_edges_decide.Goals as goal

pub returns : goal.returns
returns c = record { fire = λ c net at n is now. fire c net at n is now; tick = λ c net at n is now. tick c net at n is now; forced = λ c net at n is now. forced c net at n is now; member = λ c net at n is now. member c net at n is now; set = λ c net at n is now. set c net at n is now; stands = each_stands }
