use Rattle.std.proofs.Common.{◌≡◌, false, take}
use Rattle.std.specs.List.{list_any}
use Rattle.ddl_read.specs.Cutting.{is_too_large}
use Rattle.ddl_read.proofs.large.first_large.Given as goal

abbrev pub invariant-pieces : goal.invariant-pieces
invariant-pieces l = (list_any (λ p. is_too_large p.kind) (take l.piece-index l.piece-items) ≡ false) × (l.piece-items ≡ l.pieces)
