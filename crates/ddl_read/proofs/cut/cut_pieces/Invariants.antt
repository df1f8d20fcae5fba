use Rattle.std.proofs.Common.{◌-◌, length}
use Rattle.ddl_read.specs.Cutting.{AreFirst}
use Rattle.ddl_read.proofs.cut.cut_pieces.Given as goal

abbrev pub invariant-pieces : goal.invariant-pieces
invariant-pieces l = AreFirst l.text l.pieces l.from

abbrev pub decreases-pieces : goal.decreases-pieces
decreases-pieces l = length l.text - l.from
