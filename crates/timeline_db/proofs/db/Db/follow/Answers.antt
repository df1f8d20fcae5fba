use Rattle.std.proofs.Common.{refl}
use Rattle.timeline_db.proofs.DoingLemmas.{follow_cell_in}
use Rattle.timeline_db.proofs.db.Db.follow.Goals as goal

pub put-requires-clause-puts : goal.put-requires-clause-puts
put-requires-clause-puts c = (refl, refl, follow_cell_in c.self.inside c.self.invariant c.args.self.now c.self.view_is c.args.sv c.args.place c.args.value c.requires c.token-before.result c.token-before.ensures, refl)
