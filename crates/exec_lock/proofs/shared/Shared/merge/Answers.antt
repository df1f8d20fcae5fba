-- Joining two seats keeps the rule.
use Rattle.std.proofs.Common.{rules}
use Rattle.exec_lock.proofs.ShareLemmas.{merges}
use Rattle.exec_lock.proofs.shared.Shared.merge.Goals as goal

pub join_seat-requires : goal.join_seat-requires
join_seat-requires g c = (search rules, search rules, search rules, search rules, merges g.X.Core.opening g.X.Core.history _ _ _ _ _ (search rules) (search rules))
