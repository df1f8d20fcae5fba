use Rattle.net_laws.proofs.DominanceLemmas.{irreflexive, upper, lower}
use Rattle.net_laws.proofs.dominance.dominance_is_a_strict_order.Goals as goal

pub returns : goal.returns
returns c = record {
  irreflexive = irreflexive;
  upper = λ c k d a e is la le b p. upper c k d a e b p is la le;
  lower = λ c k d a e is la le b p. lower c k d a e b p is la le;
}
