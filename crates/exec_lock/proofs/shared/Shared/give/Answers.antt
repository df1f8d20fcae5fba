-- Giving the turn back keeps the rule.
use Rattle.std.proofs.Common.{rules}
use Rattle.exec_lock.proofs.TurnLemmas.{gives_keeps}
use Rattle.exec_lock.proofs.shared.Shared.give.Goals as goal

pub store-requires : goal.store-requires
store-requires g c = let h = c.requires.has in (search rules, search rules, gives_keeps g.X.Core.opening g.X.Core.history _ _ _ _ h.0 (search rules) h.1 h.2 h.3 h.4)
