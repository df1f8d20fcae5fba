-- A new note keeps the rule.
use Rattle.std.proofs.Common.{rules}
use Rattle.exec_lock.proofs.ShareLemmas.{notes}
use Rattle.exec_lock.proofs.shared.Shared.note.Goals as goal

pub split_seat-requires : goal.split_seat-requires
split_seat-requires g c = (search rules, search rules, notes g.X.Core.opening g.X.Core.history _ _ _ (search rules))
