use Rattle.net_laws.proofs.DominanceLemmas.{nested_first, nested_last}
use Rattle.net_laws.proofs.dominance.between_is_nested.Goals as goal

pub returns : goal.returns
returns c = record {
  first = λ c k d a e is la le b x. nested_first c k d a e b x is la le;
  last = λ c k d a e is la le b x. nested_last c k d a e b x is la le;
}
