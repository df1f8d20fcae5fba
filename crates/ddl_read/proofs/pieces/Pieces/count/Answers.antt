use Rattle.std.proofs.Common.{arith}
use Rattle.ddl_read.proofs.CutLemmas.{few_pieces}
use Rattle.ddl_read.proofs.pieces.Pieces.count.Goals as goal

pub overflow_cast-result : goal.overflow_cast-result
overflow_cast-result c = let few = few_pieces c.self.inside.text.now c.self.inside.pieces c.self.invariant in record { fits = omega arith }
