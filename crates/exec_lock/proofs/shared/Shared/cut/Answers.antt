-- Cutting a run keeps the rule.
use Rattle.std.proofs.Common.{rules}
use Rattle.exec_lock.proofs.ShareLemmas.{cuts}
use Rattle.exec_lock.proofs.shared.Shared.cut.Goals as goal

pub split_seat-requires : goal.split_seat-requires
split_seat-requires g c = (search rules, search rules, cuts g.X.Core.opening g.X.Core.history _ _ _ _ (search rules) c.requires.few.0 c.requires.few.1)
