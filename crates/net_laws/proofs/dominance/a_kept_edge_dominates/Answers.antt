use Rattle.net_laws.proofs.DominanceLemmas.{kept_upper, kept_lower}
use Rattle.net_laws.proofs.dominance.a_kept_edge_dominates.Goals as goal

pub returns : goal.returns
returns c = record {
  upper = λ c k d a e is la le b. kept_upper c k d a e b is la le;
  lower = λ c k d a e is la le b. kept_lower c k d a e b is la le;
}
