-- A lost try keeps the rule.
use Rattle.std.proofs.Common.{rules}
use Rattle.exec_lock.proofs.ShareLemmas.{learns}
use Rattle.exec_lock.proofs.shared.Shared.learn.Goals as goal

pub compare_exchange-requires : goal.compare_exchange-requires
compare_exchange-requires g c = (search rules, search rules, learns g.X.Core.opening g.X.Core.history _ _ _ _)
