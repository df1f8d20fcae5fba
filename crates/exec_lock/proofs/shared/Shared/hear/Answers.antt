-- Taking in a note keeps the rule.
use Rattle.std.proofs.Common.{rules}
use Rattle.exec_lock.proofs.ShareLemmas.{hears}
use Rattle.exec_lock.proofs.shared.Shared.hear.Goals as goal

pub join_seat-requires : goal.join_seat-requires
join_seat-requires g c = (search rules, search rules, search rules, search rules, hears g.X.Core.opening g.X.Core.history _ _ _ _ _ (search rules) (search rules) (search rules) (search rules))
