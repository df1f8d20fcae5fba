use Rattle.std.proofs.Common.{length, ap, arith}
use Rattle.timeline_db.proofs.FewLemmas.{goals_db}
use Rattle.timeline_db.proofs.db.Db.open_goal.Goals as goal

pub first_unmet-requires : goal.first_unmet-requires
first_unmet-requires c = let few = goals_db _ _ _ c.self.inside.draft.board _ _ c.self.invariant in omega (arith, few, ap length c.deref.ensures.value)
