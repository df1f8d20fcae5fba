use Rattle.std.proofs.Common.{List, ℕ, subst, arith}
use Rattle.hs_texts.specs.MissionSpelling.{Spells, IsTrailingIn}
use Rattle.ddl_read.proofs.ReadLemmas.{spells_whole, trailing_in}
use Rattle.ddl_read.proofs.reading.read.Goals as goal

pub returns-then-used-count : goal.returns-then-used-count
returns-then-used-count c =
    let cut = c.in_ok-pieces.ensures in
    let pieces = c.in_ok-pieces.pieces in
    subst (λ (bytes : List ℕ). IsTrailingIn bytes c.place.result) cut.0 (trailing_in pieces.bytes pieces.pieces c.in_ok-ast.ast c.in_ok-ast.used c.place.result cut.1 c.in_ok-ast.ensures (omega (arith, c.count.ensures, c.if-used-count.true)) c.place.ensures)

pub returns : goal.returns
returns c =
    let cut = c.in_ok-pieces.ensures in
    let pieces = c.in_ok-pieces.pieces in
    subst (λ (bytes : List ℕ). Spells bytes c.in_ok-ast.ast) cut.0 (spells_whole pieces.bytes pieces.pieces c.in_ok-ast.ast c.in_ok-ast.used cut.1 c.in_ok-ast.ensures (omega (arith, c.count.ensures, c.if-used-count.false)))
