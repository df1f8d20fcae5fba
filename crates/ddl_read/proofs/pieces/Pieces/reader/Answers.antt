use Rattle.std.proofs.Common.{drop, ap, ◌∙◌}
use Rattle.ddl_read.specs.Cutting.{CutText}
use Rattle.ddl_read.proofs.ReadLemmas.{are_spelled, spelled_drop}
use Rattle.ddl_read.proofs.pieces.Pieces.reader.Goals as goal

pub new-requires : goal.new-requires
new-requires c =
    let pieces = c.args.self.now in
    let text = ap (λ (v : CutText). v.bytes) c.self.view_is in
    let rest = c.split_at.ensures.back ∙ ap (drop c.min.result) c.as_slice-pieces.ensures.pieces in
    rw (text, rest) (spelled_drop pieces.bytes c.min.result pieces.pieces (are_spelled _ _ c.as_slice-pieces.ensures.cut))
