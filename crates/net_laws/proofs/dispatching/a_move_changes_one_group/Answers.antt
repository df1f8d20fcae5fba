use Rattle.net_laws.proofs.MoveLemmas.{group_fired, other_fired, tick_or}
use Rattle.net_laws.proofs.dispatching.a_move_changes_one_group.Goals as goal

pub returns : goal.returns
returns c = record { own = λ c net at n is now. group_fired c net is at n now; others = λ c net at n is now. other_fired c net is at n now; tick = λ c net at n is now. tick_or c net is at n now }
