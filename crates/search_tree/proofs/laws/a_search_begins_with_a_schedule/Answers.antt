use Rattle.search_tree.proofs.RootLemmas.{root_meets, root_schedule, root_sound}
use Rattle.search_tree.proofs.laws.a_search_begins_with_a_schedule.Goals as goal

pub returns : goal.returns
returns c = record { sound = root_sound; schedule = λ m b may. record { schedule = root_schedule m b may; meets = root_meets m b may } }
