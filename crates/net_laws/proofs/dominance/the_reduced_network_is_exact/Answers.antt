use Rattle.net_laws.proofs.UniqueLemmas.{one_network}
use Rattle.net_laws.proofs.ExactLemmas.{exact, reduced_again}
use Rattle.net_laws.proofs.dominance.the_reduced_network_is_exact.Goals as goal

pub returns : goal.returns
returns c = record { exact = exact; again = reduced_again; one = one_network }
