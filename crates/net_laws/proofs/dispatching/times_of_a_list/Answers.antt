use Rattle.net_laws.proofs.ListedLemmas.{agrees_at, agrees_by}
use Rattle.net_laws.proofs.dispatching.times_of_a_list.Goals as goal

pub returns : goal.returns
returns c = λ ts s once. (agrees_at ts s, agrees_by ts s once)
