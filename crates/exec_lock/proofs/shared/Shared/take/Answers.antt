-- A try for the turn keeps the rule.
use Rattle.std.proofs.Common.{rules}
use Rattle.exec_lock.proofs.TurnLemmas.{takes_keeps}
use Rattle.exec_lock.proofs.shared.Shared.take.Goals as goal

pub compare_exchange-requires : goal.compare_exchange-requires
compare_exchange-requires g c = (search rules, search rules, takes_keeps g.X.Core.opening g.X.Core.history _ _ _ _ (search rules) (search rules) (search rules))
