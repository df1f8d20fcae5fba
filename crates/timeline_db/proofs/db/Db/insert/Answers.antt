use Rattle.std.proofs.Common.{arith}
use Rattle.timeline_db.proofs.DoingLemmas.{few_in}
use Rattle.timeline_db.proofs.db.Db.insert.Goals as goal

pub overflow_add-held : goal.overflow_add-held
overflow_add-held c =
    let few = few_in c.self.inside c.self.invariant in
    let points = few.0 in
    omega arith
